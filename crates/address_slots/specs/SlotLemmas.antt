-- Lemmas: nothing here has to be believed.
-- How many slots there are, how many of them are free, and how large their marks are.
use Rattle.std.specs.Prelude.{ℕ, zero, suc, ◌^◌, ◌≤◌, ◌<◌, ◌≡◌, refl, Bool, true, false, List, [], ◌∷◌, length, take, drop}
use Rattle.std.proofs.Common.{ap, arith}
use Rattle.address_slots.specs.Slot.{Slot, slots, is_free, has, count_free}
use Rattle.address_slots.specs.Marks.{bit, marks_of}

pub length-slots : (n : ℕ) (m : List ℕ) → length (slots n m) ≡ n
unfolding slots
length-slots zero m = refl
length-slots (suc n) m = ap suc (length-slots n (drop 9 m))

most-cons : (p : Slot) (ps : List Slot) (x : Bool) → is_free p ≡ x → count_free ps ≤ length ps → count_free (p ∷ ps) ≤ suc (length ps)
unfolding count_free
most-cons p ps true e h = rw e (omega arith)
most-cons p ps false e h = rw e (omega arith)

pub count_most : (ps : List Slot) → count_free ps ≤ length ps
unfolding count_free
count_most [] = omega arith
count_most (p ∷ ps) = most-cons p ps _ refl (count_most ps)

pub bit-most : (b : Bool) → bit b ≤ 1
bit-most true = omega arith
bit-most false = omega arith

pub marks-bound : (n : ℕ) (ps : List Slot) → marks_of n ps < 2 ^ n
unfolding marks_of
marks-bound zero ps = omega arith
marks-bound (suc n) ps = omega (arith, marks-bound n (drop 64 ps), bit-most (has is_free (take 64 ps)))
