-- The ways out of the calls, one law each.
use Rattle.std.specs.Prelude.{Option, Some, None, Ok, Err}
use Prim.Native.Nat.{ℕ, ◌+◌, ◌*◌}
use mathlib.Core.Bool.{Bool, true, false}
use mathlib.Core.Path.{◌≡◌, refl}
use mathlib.Core.List.{List}
use borrow.Author.Tests.{lt-ltb}
use lib.ListN.{length, set}
use Rattle.address_slots.specs.SlotLemmas.{length-slots}
use Rattle.refusal.specs.declared.Refusal.{Refusal}
use Rattle.refusal.specs.declared.Refusal.TheVariants.{Range, Full, Unknown}
use Rattle.address_slots.specs.Slot.{slots, fit, is_free, held_by, has, lowest_from, slot_found, hold, freed}
use Rattle.address_slots.specs.Marks.{summary_of, slot_found_by}
use Rattle.address_slots.specs.declared.groups.Summary.{Summary}
use Rattle.address_slots.specs.declared.slot.SlotFound.{SlotFound}
use Rattle.address_slots.specs.declared.slot.SlotFound.TheVariants.{Held, Free, Nothing}
use Rattle.address_slots.proofs.Passing.{board-at, board-none}
use Rattle.address_slots.proofs.Fit.{fit_all}
use Rattle.address_ledger.specs.range.Range.{in_limits, judged, counted, Usable}
use Rattle.address_ledger.specs.Ledger.{Outcome, outcome, answered, empty_ledger, with_summary, fewer, more, opened_by, opened}
use Rattle.address_ledger.specs.Ledger.{granting, granted_by, granted, giving_back, given_back_by, given_back, free_count}
use Rattle.address_ledger.specs.declared.answer.CallResult.{CallResult}
use Rattle.address_ledger.specs.declared.ledger.Ledger.{Ledger}

-- ---- opening
module _ (first size : ℕ) (m : List ℕ) where
  pub open-refused : (x : Refusal) → Err x ≡ judged first size (length m)
      → record { verdict = Err x; ledger = empty_ledger } ≡ opened first size m
  unfolding opened opened_by
  open-refused x e = rw (← e)

  pub open-accepted : Ok tt ≡ judged first size (length m)
      → (n : ℕ) → n ≡ counted first size → (s : Summary) → s ≡ summary_of (slots n m)
      → record { verdict = Ok tt; ledger = with_summary first size s } ≡ opened first size m
  unfolding opened opened_by
  open-accepted e n ne s se = rw (se, ne, ← e)

-- ---- what was found decides
module _ (n : ℕ) (l : Ledger) (m b : List ℕ) (s : SlotFound) (r : CallResult) where
  pub grant-held : (k : ℕ) → Held k ≡ s → r ≡ answered (Ok (l.first + k)) l → outcome r.answer r.ledger m ≡ granting n l m b s
  unfolding granting
  grant-held k e h = rw (← e, h)

  pub grant-free : (k : ℕ) → Free k ≡ s → (m' : List ℕ) → m' ≡ hold m k b → (l' : Ledger) → l' ≡ fewer n k m' l
      → r ≡ answered (Ok (l'.first + k)) l'
      → outcome r.answer r.ledger m' ≡ granting n l m b s
  unfolding granting
  grant-free k e m' w l' q h = rw (← e, h, q, w)

  pub grant-nothing : Nothing ≡ s → r ≡ answered (Err Full) l → outcome r.answer r.ledger m ≡ granting n l m b s
  unfolding granting
  grant-nothing e h = rw (← e, h)

module _ (n : ℕ) (l : Ledger) (m b : List ℕ) (r : CallResult) where
  pub back-held : (k : ℕ) → Some k ≡ lowest_from (held_by b) 0 (slots n m) → (l' : Ledger) → l' ≡ more n k (set m (9 * k) 0) l
      → r ≡ answered (Ok (l'.first + k)) l'
      → outcome r.answer r.ledger (set m (9 * k) 0) ≡ giving_back n l m (slot_found b (slots n m))
  unfolding giving_back freed slot_found has
  back-held k e l' q a =
      let at = board-at b n m k e in
      rw (← at.0, length-slots n m, lt-ltb k n at.1, a, q)

  unknown-by : (x : Bool) → has is_free (slots n m) ≡ x → has (held_by b) (slots n m) ≡ false
      → outcome (Err Unknown) l m ≡ giving_back n l m (slot_found b (slots n m))
  unfolding giving_back slot_found
  unknown-by true f h = rw (h, f)
  unknown-by false f h = rw (h, f)

  pub back-unknown : None ≡ lowest_from (held_by b) 0 (slots n m) → r ≡ answered (Err Unknown) l
      → outcome r.answer r.ledger m ≡ giving_back n l m (slot_found b (slots n m))
  back-unknown e a = rw a (unknown-by _ refl (board-none b n m e))

-- ---- RANGE and ROOM come first
module _ (l : Ledger) (m b : List ℕ) where
  module _ (x : Refusal) (e : Err x ≡ judged l.first l.size (length m)) where
    pub grant-refused : (r : CallResult) → r ≡ answered (Err x) l → outcome r.answer r.ledger m ≡ granted l m b
    unfolding granted granted_by
    grant-refused r h = rw (← e, h)

    pub back-refused : (r : CallResult) → r ≡ answered (Err x) l → outcome r.answer r.ledger m ≡ given_back l m b
    unfolding given_back given_back_by
    back-refused r h = rw (← e, h)

  module _ (e : Ok tt ≡ judged l.first l.size (length m)) (n : ℕ) (ne : n ≡ counted l.first l.size) where
    pub grant-accepted : (o : Outcome) → o ≡ granting n l m b (slot_found_by l.summary b (slots n m)) → o ≡ granted l m b
    unfolding granted granted_by
    grant-accepted o d = rw (← e, ← ne) d

    pub back-accepted : (o : Outcome) → o ≡ giving_back n l m (slot_found b (slots n m)) → o ≡ given_back l m b
    unfolding given_back given_back_by
    back-accepted o d = rw (← e, ← ne) d

-- ---- the question
module _ (l : Ledger) where
  pub free-within : true ≡ in_limits l.first l.size → Ok l.free ≡ free_count l
  unfolding free_count
  free-within e = rw (← e)

  pub free-outside : false ≡ in_limits l.first l.size → Err Range ≡ free_count l
  unfolding free_count
  free-outside e = rw (← e)

-- ---- a ledger in use: the places that count have room
module _ (l : Ledger) (n : ℕ) where
  pub sought-is : (m b : List ℕ) → Usable l.first (length m) n → (s : SlotFound)
      → s ≡ slot_found_by l.summary b (slots (fit n (length m)) m)
      → s ≡ slot_found_by l.summary b (slots n m)
  sought-is m b u s e = rw (fit_all n (length m) u.size u.room) e

  pub board-is : (m b : List ℕ) → Usable l.first (length m) n → (r : Option ℕ)
      → r ≡ lowest_from (held_by b) 0 (slots (fit n (length m)) m)
      → r ≡ lowest_from (held_by b) 0 (slots n m)
  board-is m b u r e = rw (fit_all n (length m) u.size u.room) e
