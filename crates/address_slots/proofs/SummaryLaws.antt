-- The walk of opening: after the groups above are surveyed, what was counted and marked is theirs.
use Prim.Native.Nat.{ℕ, suc, ◌+◌, ◌-◌, ◌*◌, ◌^◌, ◌≤◌, ◌<◌, min}
use mathlib.Core.Path.{◌≡◌, refl, sym, ap, ◌∙◌}
use mathlib.Core.Bool.{not}
use mathlib.Core.List.{List, []}
use native.Mathlib.Omega.{arith}
use lib.Dec.{eqb}
use lib.ListN.{drop, take-append-drop, length-drop, drop_of_length-le}
use lib.Pow.{pow_mono}
use lib.Seq.{drop-drop}
use Rattle.address_slots.specs.SlotLemmas.{length-slots, count_most, marks-bound}
use Rattle.address_slots.specs.Slot.{Slot, slots, is_free, has, count_free}
use Rattle.address_slots.specs.Marks.{bit, group_at, marks_of}
use Rattle.address_slots.proofs.Runs.{group-places, count-append, has-count}

pub record Surveyed (n : ℕ) (m : List ℕ) (free marks above : ℕ) : Type 0 where
  pub within : above ≤ 64
  pub counted : free ≡ count_free (drop (64 * above) (slots n m))
  pub marked : marks ≡ marks_of (64 - above) (drop (64 * above) (slots n m))

pub survey-none : (n : ℕ) (m : List ℕ) → n ≤ 4096 → Surveyed n m 0 0 64
unfolding count_free marks_of
survey-none n m h =
    let e : drop (64 * 64) (slots n m) ≡ [] = drop_of_length-le (slots n m) {i = 64 * 64} (omega (arith, length-slots n m)) in
    record { within = omega arith; counted = rw e; marked = refl }

module _ (n : ℕ) (m : List ℕ) (free marks above : ℕ) (w : Surveyed n m free marks above) (h : n ≤ 4096) (p : 0 < above) where
  next : drop 64 (drop (64 * (above - 1)) (slots n m)) ≡ drop (64 * above) (slots n m)
  next =
      let e : 64 * (above - 1) + 64 ≡ 64 * above = omega arith in
      drop-drop 64 (64 * (above - 1)) (slots n m) ∙ ap (λ (x : ℕ). drop x (slots n m)) e

  pub marks-most : 2 * marks + 1 < 2 ^ 64
  marks-most =
      let b : marks < 2 ^ (64 - above) = rw w.marked (marks-bound (64 - above) (drop (64 * above) (slots n m))) in
      let c : 2 ^ (64 - above) ≤ 2 ^ 63 = pow_mono {i = 64 - above} {j = 63} (omega arith) in
      omega (arith, b, c)

  module _ (end found : ℕ) (e : end ≡ min (64 * (above - 1) + 64) n)
      (f : found ≡ count_free (slots (end - 64 * (above - 1)) (drop (9 * (64 * (above - 1))) m))) where
    found-is : found ≡ count_free (group_at (above - 1) (slots n m))
    found-is = rw (group-places (above - 1) n end m e) f

    whole : count_free (drop (64 * (above - 1)) (slots n m)) ≡ found + free
    whole =
        ap (λ (ps : List Slot). count_free ps) (sym (take-append-drop 64 (drop (64 * (above - 1)) (slots n m))))
        ∙ count-append (group_at (above - 1) (slots n m)) (drop 64 (drop (64 * (above - 1)) (slots n m)))
        ∙ rw (next, ← w.counted, found-is)

    pub sum-most : free + found ≤ 4096
    sum-most =
        omega (arith, whole, count_most (drop (64 * (above - 1)) (slots n m)), length-drop (64 * (above - 1)) (slots n m), length-slots n m)

    pub survey-more : (mark : ℕ) → mark ≡ bit (not (eqb found 0)) → Surveyed n m (free + found) (mark + 2 * marks) (above - 1)
    unfolding marks_of
    survey-more mark o =
        let v = w.within in
        let s : 64 - (above - 1) ≡ suc (64 - above) = omega arith in
        let q : mark ≡ bit (has is_free (group_at (above - 1) (slots n m))) =
        o ∙ rw (has-count (group_at (above - 1) (slots n m)), found-is) in
        record {
          within = omega arith;
          counted = omega (arith, whole);
          marked = rw (s, next, q, w.marked);
        }
