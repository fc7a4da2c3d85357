-- Questions about a list, asked of one element after the other.
use Rattle.std.specs.Prelude.{Bool, cond, List, [], ◌∷◌}
use Rattle.std.specs.List.{list_all, list_any}
use Rattle.std.proofs.Math.Option.{Option, none, some}

module _ {A : Type 0} where
  -- some element passes the test
  abbrev pub any_of : (A → Bool) → List A → Bool
  any_of = list_any

  -- every element passes the test
  abbrev pub all_of : (A → Bool) → List A → Bool
  all_of = list_all

  -- the first element that passes the test
  abbrev pub first_of : (A → Bool) → List A → Option A
  first_of test [] = none
  first_of test (x ∷ xs) = cond (test x) (some x) (first_of test xs)
