-- Lemmas: nothing here has to be believed.
-- Two lists of bytes compared from the front: the bits in which they differ are gathered, so none is found exactly where they are the same.
use Rattle.std.specs.Prelude.{◌≡◌, refl, Bool, true, false, ◌&&◌, List, [], ◌∷◌, ℕ, ◌+◌, ◌<◌, ◌≤◌, length, get_or, drop, eqb}
use Rattle.std.proofs.Common.{sym, ◌∙◌, ap₂, add-one, arith, eq-eqb, ne_eqb, eqb-true, drop_of_length-le, drop-cons}
use Rattle.std.proofs.Math.Bool.{and-true, and-false, and_assoc}
use Rattle.std.specs.Int.Bits.{bit_xor, bit_or, xor_self, or_zero_r, or_add_and, xor_add_and}
use Rattle.std.proofs.lemmas.Nat.{and_le_l, and_le_r}
use Rattle.lemmas.specs.logic.Tests.{both_left, both_right}
use Rattle.lemmas.specs.lists.Same.{same}
use lib.Pointwise.{pointwise}

-- d has the bits in which the first i of n places were found to differ: none, and the rest is the same, where the lists are
pub record Comparing (n : ℕ) (s u : List ℕ) (d i : ℕ) : Type 0 where
  pub low : i ≤ n
  pub so_far : (eqb d 0 && same (drop i s) (drop i u)) ≡ same s u

pub compare-begin : {n : ℕ} {s u : List ℕ} → Comparing n s u 0 0
compare-begin = record { low = omega arith; so_far = refl }

equal-bits : (d a b : ℕ) → bit_or d (bit_xor a b) ≡ 0 → a ≡ b
equal-bits d a b e =
    omega (arith, or_add_and d (bit_xor a b), and_le_l d (bit_xor a b), and_le_r d (bit_xor a b), xor_add_and a b, and_le_l a b, and_le_r a b)

differing : (d a b : ℕ) (e : Bool) → eqb a b ≡ e → eqb (bit_or d (bit_xor a b)) 0 ≡ (eqb d 0 && e)
differing d a b true h = let q : a ≡ b = eqb-true a b h in rw (q, xor_self b, or_zero_r d) (sym (and-true (eqb d 0)))
differing d a b false h =
    ne_eqb (bit_or d (bit_xor a b)) 0
    (λ z. let t : eqb a b ≡ true = eq-eqb a b (equal-bits d a b z) in let w : ◌≡◌ {A = ℕ} 0 1 = cc in omega arith)
    ∙ sym (and-false (eqb d 0))

pub compare-step : {n : ℕ} {s u : List ℕ} {d i : ℕ} → Comparing n s u d i → i < length s → i < length u → i < n
    → Comparing n s u (bit_or d (bit_xor (get_or s i 0) (get_or u i 0))) (i + 1)
unfolding same
compare-step {n} {s} {u} {d} {i} inv h k l =
    record {
      low = omega arith;
      so_far =
          rw (differing d (get_or s i 0) (get_or u i 0) (eqb (get_or s i 0) (get_or u i 0)) refl, add-one i, and_assoc)
          (rw (drop-cons s i 0 h, drop-cons u i 0 k) at inv.so_far);
    }

-- the same, of the two bytes x and y at i
pub compare-more : {n : ℕ} {s u : List ℕ} {d i j x y : ℕ} → Comparing n s u d i → i < length s → i < length u → i < n
    → x ≡ get_or s i 0 → y ≡ get_or u i 0 → j ≡ i + 1 → Comparing n s u (bit_or d (bit_xor x y)) j
compare-more inv h k l ex ey ej = rw (ex, ey, ej) (compare-step inv h k l)

pub compare-end : {n : ℕ} {s u : List ℕ} {d i : ℕ} → Comparing n s u d i → length s ≤ i → length u ≤ i → eqb d 0 ≡ same s u
unfolding same
compare-end {n} {s} {u} {d} {i} inv h k = rw (drop_of_length-le s h, drop_of_length-le u k, and-true (eqb d 0)) at inv.so_far

-- lists that the test calls the same are
pub same-equal : (s u : List ℕ) → same s u ≡ true → s ≡ u
unfolding same
same-equal [] [] e = refl
same-equal [] (y ∷ u) e = absurd (let w : ◌≡◌ {A = ℕ} 0 1 = cc in omega arith)
same-equal (x ∷ s) [] e = absurd (let w : ◌≡◌ {A = ℕ} 0 1 = cc in omega arith)
same-equal (x ∷ s) (y ∷ u) e =
    ap₂ (λ (z : ℕ) (l : List ℕ). z ∷ l) (eqb-true x y (both_left (eqb x y) (same s u) e))
    (same-equal s u (both_right (eqb x y) (same s u) e))

pub same_refl : (l : List ℕ) → same l l ≡ true
unfolding same
same_refl [] = refl
same_refl (x ∷ l) = rw (eq-eqb x x refl, same_refl l)

-- the library's test of two slices or arrays
pub pointwise-same : (s u : List ℕ) → pointwise eqb s u ≡ same s u
unfolding same
pointwise-same [] [] = refl
pointwise-same [] (y ∷ u) = refl
pointwise-same (x ∷ s) [] = refl
pointwise-same (x ∷ s) (y ∷ u) = rw (pointwise-same s u)
