-- One turn of each loop over the bytes or the places: what is left from here is one thing and what is left from the next on.
use Prim.Native.Nat.{ℕ, zero, suc, ◌+◌, ◌-◌, ◌*◌, ◌≤◌, ◌<◌}
use mathlib.Core.Path.{◌≡◌, refl, sym, ap, ◌∙◌}
use mathlib.Core.Bool.{Bool, true, false, ◌&&◌, and-false}
use mathlib.Core.List.{List, [], ◌∷◌}
use native.Mathlib.Omega.{arith}
use native.Mathlib.Nat.{add-zero}
use borrow.Author.Tests.{eq-eqb, ne_eqb, lt-ltb, le-ltb, ltb-true, ltb-false}
use lib.Dec.{eqb, ltb}
use Rattle.std.specs.Prelude.{Some, None}
use lib.ListN.{length, get_or, take, drop}
use lib.Seq.{get_or-drop, drop-drop}
use Rattle.address_slots.specs.Slot.{Slot, slot_at, slots, same, lowest, has, lowest_from, is_free, held_by, count_free}

-- ---- the bytes of a board
pub same_step : (n at i : ℕ) (m b : List ℕ) → i < n
    → same (n - i) (drop (at + i) m) (drop i b)
    ≡ (eqb (get_or m (at + i) 0) (get_or b i 0) && same (n - (i + 1)) (drop (at + (i + 1)) m) (drop (i + 1) b))
unfolding same
same_step n at i m b h =
    let e : n - i ≡ suc (n - (i + 1)) = omega arith in
    let f : at + i + 0 ≡ at + i = omega arith in
    let g : at + i + 1 ≡ at + (i + 1) = omega arith in
    rw (e, get_or-drop, drop-drop, get_or-drop, drop-drop, f, g, add-zero)

pub same_end : (at i : ℕ) (m b : List ℕ) → 8 ≤ i → same (8 - i) (drop (at + i) m) (drop i b) ≡ true
unfolding same
same_end at i m b h =
    let e : 8 - i ≡ 0 = omega arith in
    rw e

same_differs : (n i : ℕ) (s b : List ℕ) → i < n → (get_or s i 0 ≡ get_or b i 0 → ⊥) → same n s b ≡ false
unfolding same
same_differs zero i s b h d = absurd (omega arith)
same_differs (suc n) zero s b h d = rw (ne_eqb (get_or s 0 0) (get_or b 0 0) d)
same_differs (suc n) (suc i) s b h d =
    let e : 1 + i ≡ suc i = omega arith in
    rw (same_differs n i (drop 1 s) (drop 1 b) (omega arith) (rw (get_or-drop 1 s i 0, get_or-drop 1 b i 0, e) d))
    (and-false (eqb (get_or s 0 0) (get_or b 0 0)))

-- the last byte differs
pub last-differs : (at : ℕ) (m b : List ℕ) → (get_or m (at + 7) 0 ≡ get_or b 7 0 → ⊥) → false ≡ same 8 (drop at m) b
last-differs at m b d = sym (same_differs 8 7 (drop at m) b (omega arith) (rw (get_or-drop at m 7 0) d))

same-take : (n : ℕ) (s b : List ℕ) → same n (take n s) b ≡ same n s b
unfolding same
same-take zero s b = refl
same-take (suc n) [] b = refl
same-take (suc n) (x ∷ s) b = ap (λ (t : Bool). (eqb x (get_or b 0 0) && t)) (same-take n s (drop 1 b))

-- ---- one place
module _ (at : ℕ) (m b : List ℕ) where
  pub mark-here : (slot_at (drop at m)).mark ≡ get_or m at 0
  unfolding slot_at
  mark-here = rw (get_or-drop, add-zero)

  board-here : same 8 (slot_at (drop at m)).board b ≡ same 8 (drop (at + 1) m) b
  unfolding slot_at
  board-here = rw (same-take 8, drop-drop)

  pub held_not : (get_or m at 0 ≡ 1 → ⊥) → false ≡ held_by b (slot_at (drop at m))
  unfolding held_by
  held_not h = rw (mark-here, ne_eqb _ _ h)

  pub held_same : get_or m at 0 ≡ 1 → same 8 (drop (at + 1) m) b ≡ held_by b (slot_at (drop at m))
  unfolding held_by
  held_same h = rw (mark-here, eq-eqb _ _ h, board-here)

module _ (at : ℕ) (m : List ℕ) where
  pub free-here : (get_or m at 0 ≡ 1 → ⊥) → is_free (slot_at (drop at m)) ≡ true
  unfolding is_free
  free-here h = rw (mark-here at m [], ne_eqb _ _ h)

  pub free-not : get_or m at 0 ≡ 1 → is_free (slot_at (drop at m)) ≡ false
  unfolding is_free
  free-not h = rw (mark-here at m [], eq-eqb _ _ h)

-- ---- the places
pub places-step : (n i : ℕ) (m : List ℕ) → i < n
    → slots (n - i) (drop (9 * i) m) ≡ slot_at (drop (9 * i) m) ∷ slots (n - (i + 1)) (drop (9 * (i + 1)) m)
unfolding slots
places-step n i m h =
    let e : n - i ≡ suc (n - (i + 1)) = omega arith in
    let g : 9 * i + 9 ≡ 9 * (i + 1) = omega arith in
    rw (e, drop-drop, g)

pub places-end : (n i : ℕ) (m : List ℕ) → n ≤ i → slots (n - i) (drop (9 * i) m) ≡ []
unfolding slots
places-end n i m h = let e : n - i ≡ 0 = omega arith in rw e

ltb-suc-by : (a b : ℕ) (x : Bool) → ltb a b ≡ x → ltb (suc a) (suc b) ≡ ltb a b
ltb-suc-by a b true e = lt-ltb (suc a) (suc b) (omega (arith, ltb-true a b e)) ∙ sym e
ltb-suc-by a b false e = le-ltb (suc a) (suc b) (omega (arith, ltb-false a b e)) ∙ sym e

pub ltb-suc : (a b : ℕ) → ltb (suc a) (suc b) ≡ ltb a b
ltb-suc a b = ltb-suc-by a b _ refl

-- the lowest place with a property
module _ (q : Slot → Bool) (n : ℕ) (m : List ℕ) where
  module _ (i : ℕ) (h : i < n) where
    pub from-found : q (slot_at (drop (9 * i) m)) ≡ true → lowest_from q i (slots (n - i) (drop (9 * i) m)) ≡ Some i
    unfolding lowest has
    from-found t =
        let ps = slots (n - (i + 1)) (drop (9 * (i + 1)) m) in
        rw (places-step n i m h, t, add-zero, lt-ltb 0 (suc (length ps)) (omega arith))

    pub from-next : q (slot_at (drop (9 * i) m)) ≡ false
        → lowest_from q i (slots (n - i) (drop (9 * i) m)) ≡ lowest_from q (i + 1) (slots (n - (i + 1)) (drop (9 * (i + 1)) m))
    unfolding lowest has
    from-next t =
        let ps = slots (n - (i + 1)) (drop (9 * (i + 1)) m) in
        let e : i + suc (lowest q ps) ≡ i + 1 + lowest q ps = omega arith in
        rw (places-step n i m h, t, e, ltb-suc (lowest q ps) (length ps))

  pub from-end : (i : ℕ) → n ≤ i → lowest_from q i (slots (n - i) (drop (9 * i) m)) ≡ None
  unfolding lowest has
  from-end i h = rw (places-end n i m h)

-- how many are free
module _ (n : ℕ) (m : List ℕ) where
  module _ (k i : ℕ) (h : i < n) where
    pub count-here : (get_or m (9 * i) 0 ≡ 1 → ⊥)
        → k + count_free (slots (n - i) (drop (9 * i) m)) ≡ (k + 1) + count_free (slots (n - (i + 1)) (drop (9 * (i + 1)) m))
    unfolding count_free is_free
    count-here t = rw (places-step n i m h, mark-here (9 * i) m [], ne_eqb _ _ t) (omega arith)

    pub count_next : get_or m (9 * i) 0 ≡ 1
        → k + count_free (slots (n - i) (drop (9 * i) m)) ≡ k + count_free (slots (n - (i + 1)) (drop (9 * (i + 1)) m))
    unfolding count_free is_free
    count_next t = rw (places-step n i m h, mark-here (9 * i) m [], eq-eqb _ _ t)

  pub count-end : (k i : ℕ) → n ≤ i → k + count_free (slots (n - i) (drop (9 * i) m)) ≡ k
  unfolding count_free
  count-end k i h = rw (places-end n i m h, add-zero)
