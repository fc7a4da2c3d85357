-- The walk over the groups: where none so far was marked and had a free place, the search goes on as from the start.
use Prim.Native.Nat.{ℕ, suc, ◌+◌, ◌-◌, ◌*◌, ◌/◌, ◌%◌, ◌≤◌, ◌<◌}
use mathlib.Core.Path.{◌≡◌, refl, sym, ap, ◌∙◌}
use mathlib.Core.Bool.{Bool, true, false, cond, ◌&&◌, and-false}
use mathlib.Core.List.{List}
use native.Mathlib.Omega.{arith}
use borrow.Author.Tests.{eq-eqb, ne_eqb, lt-ltb, ltb-true}
use native.Mathlib.Nat.{zero-add}
use lib.Dec.{eqb}
use lib.ListN.{drop}
use Rattle.std.specs.Prelude.{Some, None}
use lib.Seq.{drop-drop}
use Rattle.address_slots.specs.SlotLemmas.{length-slots}
use Rattle.address_slots.specs.Slot.{slots, is_free, held_by, lowest, lowest_from, has}
use Rattle.address_slots.specs.Marks.{group_at, marked, free_by, slot_found_by}
use Rattle.address_slots.specs.declared.slot.SlotFound.{SlotFound}
use Rattle.address_slots.specs.declared.slot.SlotFound.TheVariants.{Held, Free, Nothing}

pub record Passed (n : ℕ) (m : List ℕ) (x left g : ℕ) : Type 0 where
  pub within : g ≤ 64
  pub same : free_by 64 x 0 (slots n m) ≡ free_by (64 - g) left (64 * g) (drop (64 * g) (slots n m))

pub none-no : (b : Bool) (k : ℕ) → None ≡ cond b (Some k) None → b ≡ false
none-no true k e = let z : ◌≡◌ {A = ℕ} 0 1 = cc in absurd (omega arith)
none-no false k e = refl

pub some-is : (b : Bool) (k j : ℕ) → Some j ≡ cond b (Some k) None → (b ≡ true) × (j ≡ k)
some-is true k j e = (refl, cc)
some-is false k j e = let z : ◌≡◌ {A = ℕ} 0 1 = cc in absurd (omega arith)

module _ (n : ℕ) (m : List ℕ) (x : ℕ) where
  module _ (left g : ℕ) (w : Passed n m x left g) (h : g < 64) where
    from-here : free_by 64 x 0 (slots n m) ≡ free_by (suc (64 - (g + 1))) left (64 * g) (drop (64 * g) (slots n m))
    from-here =
        let k : 64 - g ≡ suc (64 - (g + 1)) = omega arith in
        w.same ∙ ap (λ (i : ℕ). free_by i left (64 * g) (drop (64 * g) (slots n m))) k

    pass : (eqb (left % 2) 1 && has is_free (group_at g (slots n m))) ≡ false → Passed n m x (left / 2) (g + 1)
    unfolding free_by marked
    pass t =
        let j : 64 * g + 64 ≡ 64 * (g + 1) = omega arith in
        record { within = omega arith; same = from-here ∙ rw (t, drop-drop 64 (64 * g) (slots n m), j) }

    -- a group without a mark
    pub pass-unmarked : (left % 2 ≡ 1 → ⊥) → Passed n m x (left / 2) (g + 1)
    pass-unmarked u = pass (rw (ne_eqb _ _ u))

    -- a group without a free place
    pub pass-full : None ≡ lowest_from is_free (64 * g) (group_at g (slots n m)) → Passed n m x (left / 2) (g + 1)
    pass-full e = pass (rw (none-no _ _ e) (and-false (eqb (left % 2) 1)))

    pub pass-found : left % 2 ≡ 1 → (place : ℕ) → Some place ≡ lowest_from is_free (64 * g) (group_at g (slots n m))
        → Free place ≡ free_by 64 x 0 (slots n m)
    unfolding free_by marked
    pass-found o place e =
        let f = some-is _ _ _ e in
        sym (from-here ∙ rw (eq-eqb _ _ o, f.0, ← f.1))

  pub pass-end : (left g : ℕ) → Passed n m x left g → 64 ≤ g → Nothing ≡ free_by 64 x 0 (slots n m)
  unfolding free_by
  pass-end left g w h = let k : 64 - g ≡ 0 = omega arith in sym (w.same ∙ rw k)

-- ---- the board first
module _ (b : List ℕ) (n : ℕ) (m : List ℕ) where
  pub board-at : (k : ℕ) → Some k ≡ lowest_from (held_by b) 0 (slots n m) → (k ≡ lowest (held_by b) (slots n m)) × (k < n)
  unfolding has
  board-at k e =
      let f = some-is _ _ _ e in
      (f.1 ∙ zero-add _, omega (arith, f.1, ltb-true _ _ f.0, length-slots n m))

  pub board-none : None ≡ lowest_from (held_by b) 0 (slots n m) → has (held_by b) (slots n m) ≡ false
  board-none e = none-no _ _ e

module _ (x : ℕ) (b : List ℕ) (n : ℕ) (m : List ℕ) where
  pub sought-held : (k : ℕ) → k ≡ lowest (held_by b) (slots n m) → k < n → Held k ≡ slot_found_by x b (slots n m)
  unfolding slot_found_by has
  sought-held k e l = rw (← e, length-slots n m, lt-ltb k n l)

  pub sought-free : has (held_by b) (slots n m) ≡ false → (s : SlotFound) → s ≡ free_by 64 x 0 (slots n m)
      → s ≡ slot_found_by x b (slots n m)
  unfolding slot_found_by
  sought-free h s d = rw h d
