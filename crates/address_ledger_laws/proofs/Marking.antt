-- The bits of the marks: writing one leaves the others, and marking the group of a place that was set anew makes right marks right again.
use Prim.Native.Nat.{ℕ, zero, suc, ◌+◌, ◌-◌, ◌*◌, ◌/◌, ◌%◌, ◌≤◌, ◌<◌}
use mathlib.Core.Path.{◌≡◌, refl, ap, ◌∙◌}
use mathlib.Core.Bool.{Bool, true, false}
use mathlib.Core.List.{List}
use native.Mathlib.Omega.{arith}
use borrow.Author.Tests.{eq-eqb, ne_eqb, lt-ltb, ltb-true, ltb-false}
use lib.Dec.{eqb, ltb}
use lib.ListN.{take, drop, set}
use lib.Seq.{drop-drop, take-set-le, drop-set-lt, drop-set-add}
use Rattle.address_slots.specs.Slot.{Slot, is_free, has}
use Rattle.address_slots.specs.Marks.{bit, marked, with_mark, group_at, marks_of, refreshed}

-- ---- one bit and the rest
pub lowest-bit : (b : Bool) (y : ℕ) → eqb ((bit b + 2 * y) % 2) 1 ≡ b
lowest-bit true y = eq-eqb ((1 + 2 * y) % 2) 1 (omega arith)
lowest-bit false y = ne_eqb ((0 + 2 * y) % 2) 1 (λ (z : (0 + 2 * y) % 2 ≡ 1). omega arith)

pub rest_of : (b : Bool) (y : ℕ) → (bit b + 2 * y) / 2 ≡ y
rest_of true y = omega arith
rest_of false y = omega arith

bit-of : (b : Bool) (y : ℕ) → (bit b + 2 * y) % 2 ≡ bit b
bit-of true y = omega arith
bit-of false y = omega arith

-- ---- a mark that is written, and the others
pub own-mark : (g : ℕ) (b : Bool) (x : ℕ) → marked g (with_mark g b x) ≡ b
unfolding marked with_mark
own-mark zero b x = lowest-bit b (x / 2)
own-mark (suc g) b x =
    let e : (x % 2 + 2 * with_mark g b (x / 2)) / 2 ≡ with_mark g b (x / 2) = omega arith in
    rw e (own-mark g b (x / 2))

pub other-mark : (g h : ℕ) (b : Bool) (x : ℕ) → (h ≡ g → ⊥) → marked h (with_mark g b x) ≡ marked h x
unfolding marked with_mark
other-mark zero zero b x n = absurd (n refl)
other-mark zero (suc h) b x n = rw (rest_of b (x / 2))
other-mark (suc g) zero b x n = let e : (x % 2 + 2 * with_mark g b (x / 2)) % 2 ≡ x % 2 = omega arith in rw e
other-mark (suc g) (suc h) b x n =
    let e : (x % 2 + 2 * with_mark g b (x / 2)) / 2 ≡ with_mark g b (x / 2) = omega arith in
    rw e (other-mark g h b (x / 2) (λ (q : h ≡ g). n (ap suc q)))

-- ---- the groups after the first
pub next-group : (g : ℕ) (ps : List Slot) → group_at (suc g) ps ≡ group_at g (drop 64 ps)
next-group g ps =
    let e : 64 * suc g ≡ 64 + 64 * g = omega arith in
    rw (e, ← drop-drop (64 * g) 64 ps)

-- a group's mark says whether an address of it is free
pub marks-say : (n : ℕ) (ps : List Slot) (g : ℕ) → g < n → marked g (marks_of n ps) ≡ has is_free (group_at g ps)
unfolding marked marks_of
marks-say zero ps g h = absurd (omega arith)
marks-say (suc n) ps zero h = lowest-bit (has is_free (take 64 ps)) (marks_of n (drop 64 ps))
marks-say (suc n) ps (suc g) h =
    rw (rest_of (has is_free (take 64 ps)) (marks_of n (drop 64 ps)), next-group g ps) (marks-say n (drop 64 ps) g (omega arith))

-- ---- a place is set
right_by : (n k : ℕ) (ps : List Slot) (p : Slot) (t : Bool) → ltb k 64 ≡ t
    → (64 ≤ k → with_mark ((k - 64) / 64) (has is_free (group_at ((k - 64) / 64) (set (drop 64 ps) (k - 64) p))) (marks_of n (drop 64 ps))
    ≡ marks_of n (set (drop 64 ps) (k - 64) p))
    → with_mark (k / 64) (has is_free (group_at (k / 64) (set ps k p))) (marks_of (suc n) ps) ≡ marks_of (suc n) (set ps k p)
unfolding with_mark marks_of
right_by n k ps p true t ih =
    let l = ltb-true k 64 t in
    let e : k / 64 ≡ 0 = omega arith in
    rw (e, drop-set-lt 64 ps k p l, rest_of (has is_free (take 64 ps)) (marks_of n (drop 64 ps)))
right_by n k ps p false t ih =
    let l = ltb-false k 64 t in
    let e : k / 64 ≡ suc ((k - 64) / 64) = omega arith in
    let j : k ≡ 64 + (k - 64) = omega arith in
    let d : drop 64 (set ps k p) ≡ set (drop 64 ps) (k - 64) p = ap (λ (i : ℕ). drop 64 (set ps i p)) j ∙ drop-set-add 64 ps (k - 64) p in
    rw (
      e,
      next-group ((k - 64) / 64) (set ps k p),
      d,
      take-set-le 64 ps k p l,
      bit-of (has is_free (take 64 ps)) (marks_of n (drop 64 ps)),
      rest_of (has is_free (take 64 ps)) (marks_of n (drop 64 ps)),
      ih l,
    )

right-set : (n k : ℕ) (ps : List Slot) (p : Slot) → k < 64 * n
    → with_mark (k / 64) (has is_free (group_at (k / 64) (set ps k p))) (marks_of n ps) ≡ marks_of n (set ps k p)
right-set zero k ps p h = absurd (omega arith)
right-set (suc n) k ps p h = right_by n k ps p _ refl (λ (l : 64 ≤ k). right-set n (k - 64) (drop 64 ps) p (omega arith))

pub refreshed-right : (k : ℕ) (ps : List Slot) (p : Slot) → k < 4096 → refreshed (marks_of 64 ps) k (set ps k p) ≡ marks_of 64 (set ps k p)
unfolding refreshed
refreshed-right k ps p h = rw (lt-ltb k 4096 h) (right-set 64 k ps p (omega arith))
