-- Two lists are the same, element by element.
use Rattle.std.specs.Prelude.{Bool, true, false, ◌&&◌, List, [], ◌∷◌}

module _ {A : Type 0} where
  abbrev pub same_by : (A → A → Bool) → List A → List A → Bool
  same_by same [] [] = true
  same_by same [] (y ∷ ys) = false
  same_by same (x ∷ xs) [] = false
  same_by same (x ∷ xs) (y ∷ ys) = (same x y && same_by same xs ys)
