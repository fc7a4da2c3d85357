-- Two lists of bytes are compared from the front: from an index on they are the same if their bytes there agree and the rest is the same.
use Rattle.std.specs.Prelude.{ℕ, suc, ◌+◌, ◌≤◌, ◌<◌, List, [], ◌∷◌, ◌≡◌, Bool, true, false, ◌&&◌, refl, length, get_or, drop, eqb}
use Rattle.std.proofs.Common.{ap, add-one, eq-eqb, drop_of_length-le, drop-cons}
use Rattle.std.proofs.Math.Bool.{and-false}
use Rattle.lemmas.specs.lists.Same.{same}
use Rattle.lemmas.specs.lists.SameLemmas.{same-equal}

pub same-lengths : (a b : List ℕ) → ¬ (length a ≡ length b) → same a b ≡ false
unfolding same
same-lengths [] [] h = absurd (h refl)
same-lengths [] (y ∷ b) h = refl
same-lengths (x ∷ a) [] h = refl
same-lengths (x ∷ a) (y ∷ b) h = rw (same-lengths a b (λ e. h (ap suc e))) (and-false _)

pub same_turn : (a b : List ℕ) (i : ℕ) → i < length a → i < length b
    → same (drop i a) (drop i b) ≡ (eqb (get_or a i 0) (get_or b i 0) && same (drop (i + 1) a) (drop (i + 1) b))
unfolding same
same_turn a b i h k = rw (add-one i, drop-cons a i 0 h, drop-cons b i 0 k)

-- bytes that differ at one index
pub differ_at : (a b : List ℕ) (j k : ℕ) → ¬ (get_or a j 0 ≡ get_or b k 0) → j ≡ k → same a b ≡ false
differ_at a b j k d e = go (same a b) refl
  where
    go : (t : Bool) → same a b ≡ t → t ≡ false
    go false h = refl
    go true h = absurd (d (rw (e, same-equal a b h) refl))

-- the bytes that were compared, at j and k, are those at index i
pub agree_at : (a b : List ℕ) (i j k : ℕ) → i < length a → i < length b → get_or a j 0 ≡ get_or b k 0 → j ≡ i → k ≡ i
    → same (drop i a) (drop i b) ≡ same (drop (i + 1) a) (drop (i + 1) b)
agree_at a b i j k in_a in_b e at_j at_k =
    rw (same_turn a b i in_a in_b, eq-eqb (get_or a i 0) (get_or b i 0) (rw (at_j, at_k) at e))

pub same_stop : (a b : List ℕ) (i : ℕ) → length a ≤ i → length b ≤ i → same (drop i a) (drop i b) ≡ true
unfolding same
same_stop a b i h k = rw (drop_of_length-le a h, drop_of_length-le b k)
