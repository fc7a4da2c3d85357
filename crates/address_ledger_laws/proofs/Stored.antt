-- What stands in the memory after a call: the place that was found is held or freed, and nothing else was written.
use Rattle.std.specs.Prelude.{Ok, Err}
use Prim.Native.Nat.{ℕ, ◌+◌}
use mathlib.Core.Path.{◌≡◌, refl}
use mathlib.Core.Bool.{true, false}
use mathlib.Core.List.{List}
use native.Mathlib.Omega.{arith}
use borrow.Author.Tests.{ltb-false}
use lib.ListN.{length}
use Rattle.refusal.specs.Verdict.{Verdict}
use Rattle.address_slots.specs.Slot.{held_by, lowest, has, slot_found}
use Rattle.address_slots.specs.Marks.{slot_found_by}
use Rattle.address_slots.specs.declared.slot.SlotFound.{SlotFound}
use Rattle.address_slots.specs.declared.slot.SlotFound.TheVariants.{Held, Free, Nothing}
use Rattle.address_slots.proofs.Found.{held-within}
use Rattle.address_slots.proofs.Offers.{held-told, free-inside-of}
use Rattle.address_ledger.specs.Ledger.{counted_of, places_of, judged_of, granting, granted_by, granted, giving_back}
use Rattle.address_ledger.specs.Ledger.{given_back_by, given_back}
use Rattle.address_ledger.specs.declared.ledger.Ledger.{Ledger}
use Rattle.address_ledger_laws.specs.Written.{HoldsNow, FreeNow, Written}
use Rattle.address_ledger_laws.proofs.Bytes.{hold-bytes, freed-bytes}
use Rattle.address_ledger_laws.proofs.Marks.{in_use, same_place}

module _ (l : Ledger) (m b : List ℕ) (k : ℕ) where
  new_by : Ok tt ≡ judged_of l m → length b ≡ 8 → (s : SlotFound) → s ≡ slot_found_by l.summary b (places_of l m)
      → has (held_by b) (places_of l m) ≡ false
      → (granting (counted_of l) l m b s).answer ≡ Ok (l.first + k) → HoldsNow m k b (granting (counted_of l) l m b s).memory
  unfolding granting has
  new_by f e (Held j) s h a =
      let i = held-told l.summary b (places_of l m) j s in
      absurd (omega (arith, i.0, i.1, ltb-false (lowest (held_by b) (places_of l m)) (length (places_of l m)) h))
  new_by f e (Free j) s h a =
      let i = free-inside-of l.summary b (counted_of l) m j s in
      let q = same_place l k j a in
      rw (← q) (hold-bytes m b j (omega (arith, i, (in_use l m f).room)) e)
  new_by f e Nothing s h a = let z : ◌≡◌ {A = ℕ} 0 1 = cc in absurd (omega arith)

  new : length b ≡ 8 → (v : Verdict) → v ≡ judged_of l m → has (held_by b) (places_of l m) ≡ false
      → (granted_by v l m b).answer ≡ Ok (l.first + k)
      → HoldsNow m k b (granted_by v l m b).memory
  unfolding granted_by
  new e (Ok tt) f h a = new_by f e (slot_found_by l.summary b (places_of l m)) refl h a
  new e (Err r) f h a = let z : ◌≡◌ {A = ℕ} 0 1 = cc in absurd (omega arith)

  back_by : Ok tt ≡ judged_of l m → (s : SlotFound) → s ≡ slot_found b (places_of l m)
      → (giving_back (counted_of l) l m s).answer ≡ Ok (l.first + k) → FreeNow m k (giving_back (counted_of l) l m s).memory
  unfolding giving_back
  back_by f (Held j) s a =
      let i = held-within b (counted_of l) m j s in
      let q = same_place l k j a in
      rw (← q) (freed-bytes m j (omega (arith, i, (in_use l m f).room)))
  back_by f (Free j) s a = let z : ◌≡◌ {A = ℕ} 0 1 = cc in absurd (omega arith)
  back_by f Nothing s a = let z : ◌≡◌ {A = ℕ} 0 1 = cc in absurd (omega arith)

  back : (v : Verdict) → v ≡ judged_of l m → (given_back_by v l m b).answer ≡ Ok (l.first + k)
      → FreeNow m k (given_back_by v l m b).memory
  unfolding given_back_by
  back (Ok tt) f a = back_by f (slot_found b (places_of l m)) refl a
  back (Err r) f a = let z : ◌≡◌ {A = ℕ} 0 1 = cc in absurd (omega arith)

again : (l : Ledger) (m b : List ℕ) (v : Verdict) → has (held_by b) (places_of l m) ≡ true → (granted_by v l m b).memory ≡ m
unfolding granted_by granting slot_found_by
again l m b (Ok tt) h = rw h
again l m b (Err r) h = refl

pub stored : Written
unfolding granted given_back
stored =
    record {
      granted-new = λ l m b k e h a. new l m b k e (judged_of l m) refl h a;
      granted-again = λ l m b h. again l m b (judged_of l m) h;
      given_back_lem = λ l m b k a. back l m b k (judged_of l m) refl a;
    }
