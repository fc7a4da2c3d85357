-- The record that is due, by what was found for the board.
use Rattle.std.specs.Prelude.{Result, Ok, Err}
use Prim.Native.Nat.{ℕ}
use mathlib.Core.Path.{◌≡◌, refl, ap, ◌∙◌}
use mathlib.Core.Bool.{Bool, true, false, cond}
use mathlib.Core.List.{List}
use native.Mathlib.Omega.{arith}
use borrow.Author.Tests.{lt-ltb}
use lib.ListN.{length}
use Rattle.std.specs.Result.{result_ok}
use Rattle.refusal.specs.declared.Refusal.{Refusal}
use Rattle.address_slots.specs.Slot.{slots, held_by, lowest, has}
use Rattle.address_slots.specs.Marks.{slot_found_by}
use Rattle.address_slots.specs.declared.slot.SlotFound.{SlotFound}
use Rattle.address_slots.specs.declared.slot.SlotFound.TheVariants as found
use Rattle.address_slots.proofs.Offers.{held-told, free-told}
use Rattle.address_ledger.specs.Ledger.{judged_of, counted_of, places_of, granting, granted_by, granted}
use Rattle.address_ledger.specs.declared.ledger.Ledger.{Ledger}
use Rattle.std.specs.Prelude.{Option}
use Rattle.std.specs.Prelude.{None}
use Rattle.address_journal.specs.Held.{held_address}
use Rattle.address_journal.specs.Entry.{due_for, grant_due, back_due}
use Rattle.address_journal.specs.EntryLemmas.{new_in}
use Rattle.address_journal.proofs.Holding.{address-back}

either : (v : Bool) → ◌≡◌ {A = Option ℕ} None (cond v None None)
either true = refl
either false = refl

module _ (l : Ledger) (m b : List ℕ) where
  held-has : (k : ℕ) → found.Held k ≡ slot_found_by l.summary b (places_of l m) → has (held_by b) (places_of l m) ≡ true
  unfolding has
  held-has k q =
      let i = held-told l.summary b (places_of l m) k q in
      lt-ltb (lowest (held_by b) (places_of l m)) (length (places_of l m)) (omega (arith, i.0, i.1))

  new_by : Ok tt ≡ judged_of l m → (s : SlotFound) → s ≡ slot_found_by l.summary b (places_of l m)
      → new_in l.first s ≡ grant_due l m b
  unfolding grant_due granted granted_by granting
  new_by e (found.Held k) q = rw (held-has k q)
  new_by e (found.Free k) q = rw ((free-told l.summary b (places_of l m) k q).1, ← e, ← q)
  new_by e found.Nothing q = rw (← e, ← q) (either (has (held_by b) (places_of l m)))

  pub due-accepted : Ok tt ≡ judged_of l m → (n : ℕ) → n ≡ counted_of l → (d : Option ℕ)
      → d ≡ new_in l.first (slot_found_by l.summary b (slots n m)) → d ≡ grant_due l m b
  due-accepted e n ne d q =
      q ∙ ap (λ (j : ℕ). new_in l.first (slot_found_by l.summary b (slots j m))) ne ∙ new_by e _ refl

  pub due-refused : (x : Refusal) → Err x ≡ judged_of l m → None ≡ grant_due l m b
  unfolding grant_due granted granted_by
  due-refused x e = rw (← e) (either (has (held_by b) (places_of l m)))

  -- an answer's address, as `ok` gives it
  ok-due : (r : Result ℕ Refusal) → result_ok r ≡ due_for r
  ok-due (Ok a) = refl
  ok-due (Err x) = refl

  pub due_back : (r : Result ℕ Refusal) → r ≡ held_address l m b → result_ok r ≡ back_due l m b
  unfolding back_due
  due_back r e = ok-due r ∙ ap due_for (e ∙ address-back l m b)
