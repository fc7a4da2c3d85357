-- Laws of lists compared element by element, as a whole and from a place on.
use Prim.Native.Nat.{ℕ, ◌+◌, ◌<◌}
use native.Mathlib.Numerals.{add-one}
use mathlib.Core.Path.{◌≡◌, refl}
use mathlib.Core.Bool.{Bool, true}
use mathlib.Core.List.{List, [], ◌∷◌}
use lib.ListN.{length, drop, get_or}
use lib.Seq.{drop-cons}
use Rattle.link_key.specs.Same.{same_by}
use Rattle.lemmas.specs.logic.Tests.{both_left, both_right}

module _ {A : Type 0} (same : A → A → Bool) where
  pub same_self : ((x : A) → same x x ≡ true) → (xs : List A) → same_by same xs xs ≡ true
  same_self h [] = refl
  same_self h (x ∷ xs) = rw (h x, same_self h xs)

  pub same-equal : ((x y : A) → same x y ≡ true → x ≡ y) → (xs ys : List A) → same_by same xs ys ≡ true → xs ≡ ys
  same-equal h [] [] e = refl
  same-equal h [] (y ∷ ys) e = cc
  same-equal h (x ∷ xs) [] e = cc
  same-equal h (x ∷ xs) (y ∷ ys) e =
      rw (h x y (both_left (same x y) (same_by same xs ys) e), same-equal h xs ys (both_right (same x y) (same_by same xs ys) e))

-- a list from a place on: what stands there, and the rest
pub next : {A : Type 0} (xs : List A) (i : ℕ) (d : A) → i < length xs → drop i xs ≡ get_or xs i d ∷ drop (i + 1) xs
next xs i d h = rw (drop-cons xs i d h, add-one i)
