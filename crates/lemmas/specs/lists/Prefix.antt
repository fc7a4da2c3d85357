-- Lemmas about the first n elements of a list, for a loop that visits them one after the other.
-- Assumes nothing.
use Rattle.std.specs.Prelude.{ℕ, zero, suc, ◌+◌, ◌≤◌, ◌<◌, ◌≡◌, refl, List, [], ◌∷◌, length, get_or, take, drop}
use Rattle.std.proofs.Common.{add-one, arith, ap, ◌∙◌, length-take, drop_of_length-le, drop-cons, get_or-take}

module _ {A : Type 0} where
  -- n may exceed the length: a prefix has the elements that its own length selects
  pub take-length-take : (n : ℕ) (xs : List A) → take (length (take n xs)) xs ≡ take n xs
  take-length-take zero xs = refl
  take-length-take (suc n) [] = refl
  take-length-take (suc n) (x ∷ xs) = ap (λ (ys : List A). x ∷ ys) (take-length-take n xs)

  module _ (xs : List A) (n i : ℕ) where
    -- from i on: the element at i, then those after it
    pub prefix-next : (d : A) → n ≤ length xs → i < n → drop i (take n xs) ≡ get_or xs i d ∷ drop (i + 1) (take n xs)
    prefix-next d few h =
        drop-cons (take n xs) i d (omega (arith, length-take n xs)) ∙ rw (add-one i, get_or-take n xs i d h)

    -- past the last: nothing
    pub prefix-end : n ≤ i → drop i (take n xs) ≡ []
    prefix-end h = drop_of_length-le (take n xs) {i = i} (omega (arith, length-take n xs))
