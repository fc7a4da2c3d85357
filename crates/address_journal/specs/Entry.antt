-- What a call appends to the journal, and the check afterwards. A call that does not change the ledger appends nothing.
use Rattle.refusal.specs.declared.Refusal.{Refusal}
use Rattle.std.specs.Prelude.{ℕ, ◌≡◌, cond, List, [], Result, Ok, Err}
use Rattle.address_slots.specs.Slot.{held_by, has}
use Rattle.address_ledger.specs.Ledger.{Outcome, outcome, places_of, granted, given_back}
use Rattle.address_ledger.specs.declared.ledger.Ledger.{Ledger}
use Rattle.std.specs.Prelude.{Option}
use Rattle.std.specs.Prelude.{Some, None}
use Rattle.address_journal.specs.Format.{record_of, check_of}

-- ---- the address of the record that is due

-- an address was granted or given back; a refusal changes nothing
abbrev pub due_for : Result ℕ Refusal → Option ℕ
due_for (Ok a) = Some a
due_for (Err r) = None

-- a board that holds an address is granted the same again, which changes nothing
unfoldable pub grant_due : Ledger → List ℕ → List ℕ → Option ℕ
grant_due l m b = cond (has (held_by b) (places_of l m)) None (due_for (granted l m b).answer)

unfoldable pub back_due : Ledger → List ℕ → List ℕ → Option ℕ
back_due l m b = due_for (given_back l m b).answer

-- ---- the bytes to append, and the check afterwards
pub record Entry : Type 0 where
  pub bytes : List ℕ
  pub check : ℕ

abbrev pub no_entry : ℕ → Entry
no_entry c = record { bytes = []; check = c }

unfoldable pub entry_of : ℕ → List ℕ → ℕ → Option ℕ → Entry
entry_of kind b c (Some a) = record { bytes = record_of kind b a c; check = check_of kind b a c }
entry_of kind b c None = no_entry c

abbrev pub grant_entry : Ledger → List ℕ → List ℕ → ℕ → Entry
grant_entry l m b c = entry_of 1 b c (grant_due l m b)

abbrev pub back_entry : Ledger → List ℕ → List ℕ → ℕ → Entry
back_entry l m b c = entry_of 2 b c (back_due l m b)

-- ---- the same as the code has it: the 16 bytes of the record that is due, if one is
abbrev pub written : Option (List ℕ) → ℕ → Entry
written (Some bytes) check = record { bytes = bytes; check = check }
written None check = no_entry check

-- the call's outcome, and what it appends
pub record RecordedSpec (o : Outcome) (e : Entry) (a : Result ℕ Refusal) (l : Ledger) (m : List ℕ) (due : Option (List ℕ)) (check : ℕ)
    : Type 0 where
  pub outcome : outcome a l m ≡ o
  pub entry : written due check ≡ e
