-- What was found says where it stands: the tests of `slot_found` are taken apart.
use Prim.Native.Nat.{ℕ, ◌<◌}
use mathlib.Core.Path.{◌≡◌, refl}
use mathlib.Core.Bool.{Bool, true, false}
use mathlib.Core.List.{List}
use native.Mathlib.Omega.{arith}
use borrow.Author.Tests.{ltb-true}
use lib.ListN.{length}
use Rattle.address_slots.specs.SlotLemmas.{length-slots}
use Rattle.address_slots.specs.Slot.{Slot, slots, held_by, is_free, lowest, has, slot_found}
use Rattle.address_slots.specs.declared.slot.SlotFound.TheVariants.{Held, Free, Nothing}

module _ (b : List ℕ) (ps : List Slot) where
  held_by_lem : (k : ℕ) (x y : Bool) → has (held_by b) ps ≡ x → has is_free ps ≡ y → Held k ≡ slot_found b ps
      → (k ≡ lowest (held_by b) ps) × (k < length ps)
  unfolding slot_found has
  held_by_lem k true y p q e =
      let f : Held k ≡ Held (lowest (held_by b) ps) = rw p at e in
      let g : k ≡ lowest (held_by b) ps = cc in
      (g, omega (arith, ltb-true (lowest (held_by b) ps) (length ps) p))
  held_by_lem k false true p q e = let f : Held k ≡ Free (lowest is_free ps) = rw (p, q) at e in let z : ◌≡◌ {A = ℕ} 0 1 = cc in
      absurd (omega arith)
  held_by_lem k false false p q e = let f : Held k ≡ Nothing = rw (p, q) at e in let z : ◌≡◌ {A = ℕ} 0 1 = cc in absurd (omega arith)

  pub held-is : (k : ℕ) → Held k ≡ slot_found b ps → (k ≡ lowest (held_by b) ps) × (k < length ps)
  held-is k e = held_by_lem k _ _ refl refl e

module _ (b : List ℕ) (n : ℕ) (m : List ℕ) (k : ℕ) where
  pub held-within : Held k ≡ slot_found b (slots n m) → k < n
  held-within e = rw (length-slots n m) at (held-is b (slots n m) k e).1
