-- The shift of the example, computed.
use Prim.Native.Nat.{ℕ, zero, suc, ◌*◌, ◌<◌}
use mathlib.Core.Path.{◌≡◌, refl}
use native.Mathlib.Omega.{arith}
use borrow.Author.Tests.{eqb-false}
use lib.ListN.{get_or}
use Rattle.lemmas.specs.lists.Same as bytes
use Rattle.address_slots.specs.Slot.{slot_at, slots, same, is_free, held_by, lowest, has, count_free, slot_found, hold, freed}
use Rattle.address_slots.specs.Marks.{marked, with_mark, marks_of, refreshed, free_by, slot_found_by}
use Rattle.short_address.specs.Address.{is_address, bytes_of}
use Rattle.address_ledger.specs.range.Range.{in_limits, judged, counted}
use Rattle.address_ledger.specs.Ledger.{opened_by, opened, granting, granted_by, granted, giving_back, given_back_by}
use Rattle.address_ledger.specs.Ledger.{given_back, free_count}
use Rattle.address_ledger_laws.specs.History.{listed, address_of, enter, strike, after_ask, after_give, step, run, after, whole_boards}
use Rattle.address_journal.specs.Crc32.{crc_bit, crc_byte, crc_bytes, crc32}
use Rattle.address_journal.specs.Format.{header_check, header_of, check_of, record_with}
use Rattle.address_journal.specs.Resume.{entry_here, outcome_here, resume_record, begun, resume_header, go_on, resume_records, resume}
use Rattle.address_journal.specs.Entry.{grant_due, back_due, entry_of}
use Rattle.address_journal_laws.specs.Journal.{calls_of, entry, records_from, check_from, after_event, after_events, lasting, changes}
use Rattle.address_journal_laws.specs.Example.{lent, JournalExample}

fresh : (k : ℕ) → k < 3 → get_or lent (9 * k) 0 ≡ 1 → ⊥
fresh zero h = eqb-false 7 1 refl
fresh (suc zero) h = eqb-false 7 1 refl
fresh (suc (suc zero)) h = eqb-false 7 1 refl
fresh (suc (suc (suc k))) h = absurd (omega arith)

pub example : JournalExample
unfolding slot_at slots same is_free held_by lowest has count_free slot_found marked with_mark marks_of refreshed free_by slot_found_by
    hold freed in_limits judged counted is_address bytes_of opened_by opened granting granted_by granted giving_back given_back_by
    given_back free_count listed address_of enter strike after_ask after_give step run after whole_boards
    crc_bit crc_byte crc_bytes crc32 header_check header_of check_of record_with entry_here outcome_here resume_record begun resume_header
    go_on resume_records resume
    bytes.same grant_due back_due entry_of calls_of entry records_from check_from after_event after_events lasting changes
example =
    record {
      vector = refl;
      starts = record { accepted = refl; fresh = fresh; boards = refl };
      lasts = refl;
      held = refl;
      memory = refl;
      long = refl;
      again = refl;
      whole = refl;
      blank = refl;
      damage = refl;
      offset = refl;
      missing = refl;
      second = refl;
    }
