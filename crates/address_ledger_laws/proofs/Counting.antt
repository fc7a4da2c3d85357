-- Holding a free place makes one free place fewer, and freeing a board's place one more; so a right count is cut nowhere.
use Prim.Native.Nat.{ℕ, zero, suc, ◌+◌, ◌-◌, ◌≤◌, ◌<◌}
use mathlib.Core.Path.{◌≡◌, refl, ap}
use mathlib.Core.Bool.{Bool, true, false}
use mathlib.Core.List.{List, [], ◌∷◌}
use native.Mathlib.Omega.{arith}
use borrow.Author.Tests.{le-leb}
use lib.Dec.{eqb}
use lib.ListN.{length, set, length-set}
use Rattle.address_slots.specs.SlotLemmas.{count_most}
use Rattle.address_slots.specs.Slot.{Slot, same, is_free, held_by, lowest, count_free}
use Rattle.address_slots.proofs.Offers.{free_at}
use Rattle.address_ledger.specs.Ledger.{cut}

held_cons : (b : List ℕ) (p : Slot) (ps : List Slot) (k : ℕ) (x : Bool) → is_free p ≡ x
    → suc (count_free (set ps k (record { mark = 1; board = b }))) ≡ count_free ps
    → suc (count_free (p ∷ set ps k (record { mark = 1; board = b }))) ≡ count_free (p ∷ ps)
unfolding count_free
held_cons b p ps k true e ih = rw e (ap suc ih)
held_cons b p ps k false e ih = rw e ih

one_less : (b : List ℕ) (ps : List Slot) (k : ℕ) → free_at ps k ≡ true
    → suc (count_free (set ps k (record { mark = 1; board = b }))) ≡ count_free ps
unfolding free_at count_free is_free
one_less b [] k h = let z : ◌≡◌ {A = ℕ} 0 1 = cc in absurd (omega arith)
one_less b (p ∷ ps) zero h = rw h
one_less b (p ∷ ps) (suc k) h = held_cons b p ps k _ refl (one_less b ps k h)

freed-cons : (b : List ℕ) (f p : Slot) (ps : List Slot) (x y : Bool) → is_free f ≡ true → eqb p.mark 1 ≡ x → same 8 p.board b ≡ y
    → (lowest (held_by b) ps < length ps → count_free (set ps (lowest (held_by b) ps) f) ≡ suc (count_free ps))
    → lowest (held_by b) (p ∷ ps) < suc (length ps) → count_free (set (p ∷ ps) (lowest (held_by b) (p ∷ ps)) f) ≡ suc (count_free (p ∷ ps))
unfolding lowest held_by is_free count_free
freed-cons b f p ps true true t e s ih h = rw (e, s, t)
freed-cons b f p ps true false t e s ih h =
    let g : suc (lowest (held_by b) ps) < suc (length ps) = rw (e, s) at h in
    rw (e, s, e) (ih (omega arith))
freed-cons b f p ps false y t e s ih h =
    let g : suc (lowest (held_by b) ps) < suc (length ps) = rw e at h in
    rw (e, e) (omega (arith, ih (omega arith)))

one_more : (b : List ℕ) (f : Slot) (ps : List Slot) → is_free f ≡ true → lowest (held_by b) ps < length ps
    → count_free (set ps (lowest (held_by b) ps) f) ≡ suc (count_free ps)
one_more b f [] t h = absurd (omega arith)
one_more b f (p ∷ ps) t h = freed-cons b f p ps _ _ t refl refl (one_more b f ps t) h

module _ (n : ℕ) (b : List ℕ) where
  pub count_less : (ps : List Slot) (k : ℕ) → length ps ≡ n → free_at ps k ≡ true
      → cut n (count_free ps - 1) ≡ count_free (set ps k (record { mark = 1; board = b }))
  count_less ps k e h =
      let o = one_less b ps k h in
      let w : count_free ps - 1 ≤ n = omega (arith, count_most ps) in
      rw (le-leb (count_free ps - 1) n w) (omega arith)

  pub count-more : (f : Slot) (ps : List Slot) → length ps ≡ n → is_free f ≡ true → lowest (held_by b) ps < length ps
      → cut n (count_free ps + 1) ≡ count_free (set ps (lowest (held_by b) ps) f)
  count-more f ps e t h =
      let o = one_more b f ps t h in
      let q = set ps (lowest (held_by b) ps) f in
      let w : count_free ps + 1 ≤ n = omega (arith, count_most q, length-set ps (lowest (held_by b) ps) f) in
      rw (le-leb (count_free ps + 1) n w) (omega arith)
