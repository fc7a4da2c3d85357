-- The ways out of the questions, one law each; the address asked for is the one that a give back answers.
use Rattle.std.specs.Prelude.{Some, None, Result, Ok, Err}
use Prim.Native.Nat.{ℕ, ◌+◌, ◌-◌, ◌*◌, ◌≤◌, ◌<◌}
use mathlib.Core.Path.{◌≡◌, refl}
use mathlib.Core.Bool.{Bool, true, false}
use mathlib.Core.List.{List}
use native.Mathlib.Omega.{arith}
use borrow.Author.Tests.{eq-eqb, ne_eqb, lt-ltb, le-ltb, le-leb, lt-leb}
use lib.Dec.{ltb}
use lib.ListN.{get_or, take, drop}
use Rattle.refusal.specs.declared.Refusal.{Refusal}
use Rattle.refusal.specs.declared.Refusal.TheVariants.{Unknown}
use Rattle.refusal.specs.Verdict.{Verdict}
use Rattle.address_slots.specs.SlotLemmas.{length-slots}
use Rattle.address_slots.specs.Slot.{slots, held_by, is_free, lowest, has, lowest_from, slot_found}
use Rattle.address_slots.proofs.Passing.{board-at, board-none}
use Rattle.address_ledger.specs.Ledger.{judged_of, counted_of, places_of, giving_back, given_back_by, given_back}
use Rattle.address_ledger.specs.declared.ledger.Ledger.{Ledger}
use Rattle.address_journal.specs.Held.{address_found, held_address_by, held_address, holds, no_holder, holder_in, holder_by, holder_of}

-- ---- the address of a board
module _ (first n : ℕ) (m b : List ℕ) where
  pub found-some : (k : ℕ) → Some k ≡ lowest_from (held_by b) 0 (slots n m)
      → Ok (first + k) ≡ address_found first n (lowest (held_by b) (slots n m))
  found-some k e =
      let at = board-at b n m k e in
      rw (← at.0, lt-ltb k n at.1)

  pub found-none : None ≡ lowest_from (held_by b) 0 (slots n m)
      → Err Unknown ≡ address_found first n (lowest (held_by b) (slots n m))
  unfolding has
  found-none e =
      let h : ltb (lowest (held_by b) (slots n m)) n ≡ false = rw (length-slots n m) at (board-none b n m e) in
      rw h

module _ (l : Ledger) (m b : List ℕ) where
  pub address-refused : (x : Refusal) → Err x ≡ judged_of l m → Err x ≡ held_address l m b
  unfolding held_address held_address_by
  address-refused x e = rw (← e)

  pub address-accepted : Ok tt ≡ judged_of l m → (n : ℕ) → n ≡ counted_of l → (a : Result ℕ Refusal)
      → a ≡ address_found l.first n (lowest (held_by b) (slots n m)) → a ≡ held_address l m b
  unfolding held_address held_address_by
  address-accepted e n ne a q = rw (← e, ← ne) q

  found-is : (x : Bool) → has (held_by b) (places_of l m) ≡ x → ltb (lowest (held_by b) (places_of l m)) (counted_of l) ≡ x
  unfolding has
  found-is x p = rw (length-slots (counted_of l) m) at p

  back_found : (x y : Bool) → has (held_by b) (places_of l m) ≡ x → has is_free (places_of l m) ≡ y
      → address_found l.first (counted_of l) (lowest (held_by b) (places_of l m))
      ≡ (giving_back (counted_of l) l m (slot_found b (places_of l m))).answer
  unfolding giving_back slot_found
  back_found true y p q = rw (found-is true p, p)
  back_found false true p q = rw (found-is false p, p, q)
  back_found false false p q = rw (found-is false p, p, q)

  back_by : (v : Verdict) → held_address_by v l m b ≡ (given_back_by v l m b).answer
  unfolding held_address_by given_back_by
  back_by (Ok tt) = back_found _ _ refl refl
  back_by (Err r) = refl

  pub address-back : held_address l m b ≡ (given_back l m b).answer
  unfolding held_address given_back
  address-back = back_by (judged_of l m)

-- ---- the board of an address
module _ (m : List ℕ) (k : ℕ) where
  pub slot-free : (get_or m (9 * k) 0 ≡ 1 → ⊥) → (r : Result (List ℕ) Refusal) → r ≡ no_holder Unknown → r ≡ holder_in m k
  unfolding holder_in
  slot-free h r e = rw (ne_eqb (get_or m (9 * k) 0) 1 h) e

  pub slot_held : get_or m (9 * k) 0 ≡ 1 → (b : List ℕ) → b ≡ take 8 (drop (9 * k + 1) m) → holds b ≡ holder_in m k
  unfolding holder_in
  slot_held h b e = rw (eq-eqb (get_or m (9 * k) 0) 1 h, e)

module _ (l : Ledger) (m : List ℕ) (a : ℕ) (r : Result (List ℕ) Refusal) where
  pub holder-refused : (x : Refusal) → Err x ≡ judged_of l m → r ≡ no_holder x → r ≡ holder_of l m a
  unfolding holder_of holder_by
  holder-refused x e q = rw (← e) q

  module _ (e : Ok tt ≡ judged_of l m) (n : ℕ) (ne : n ≡ counted_of l) where
    pub holder-below : a < l.first → r ≡ no_holder Unknown → r ≡ holder_of l m a
    unfolding holder_of holder_by
    holder-below h q = rw (← e, lt-leb l.first a h) q

    pub holder-above : l.first ≤ a → n ≤ a - l.first → r ≡ no_holder Unknown → r ≡ holder_of l m a
    unfolding holder_of holder_by
    holder-above h k q = rw (← e, le-leb l.first a h, ← ne, le-ltb a (l.first + n) (omega arith)) q

    pub holder-inside : l.first ≤ a → a - l.first < n → r ≡ holder_in m (a - l.first) → r ≡ holder_of l m a
    unfolding holder_of holder_by
    holder-inside h k q = rw (← e, le-leb l.first a h, ← ne, lt-ltb a (l.first + n) (omega arith)) q
