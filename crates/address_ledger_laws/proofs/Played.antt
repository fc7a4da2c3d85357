-- The shift of the witness, computed.
use Prim.Native.Nat.{ℕ, zero, suc, ◌*◌, ◌<◌}
use mathlib.Core.Path.{◌≡◌, refl}
use native.Mathlib.Omega.{arith}
use borrow.Author.Tests.{eqb-false}
use lib.ListN.{get_or, replicate}
use Rattle.address_slots.specs.Slot.{slot_at, slots, same, is_free, held_by, lowest, has, count_free, slot_found, hold, freed}
use Rattle.address_slots.specs.Marks.{marked, with_mark, marks_of, refreshed, free_by, slot_found_by}
use Rattle.short_address.specs.Address.{is_address, bytes_of}
use Rattle.address_ledger.specs.range.Range.{in_limits, judged, counted}
use Rattle.address_ledger.specs.Ledger.{opened_by, opened, granting, granted_by, granted, giving_back, given_back_by}
use Rattle.address_ledger.specs.Ledger.{given_back, free_count}
use Rattle.address_ledger_laws.specs.History.{listed, address_of, enter, strike, after_ask, after_give, step, run, after, whole_boards}
use Rattle.address_ledger_laws.specs.Example.{lent, LedgerExample}

fresh : (k : ℕ) → k < 3 → get_or lent (9 * k) 0 ≡ 1 → ⊥
fresh zero h = eqb-false 7 1 refl
fresh (suc zero) h = eqb-false 7 1 refl
fresh (suc (suc zero)) h = eqb-false 7 1 refl
fresh (suc (suc (suc k))) h = absurd (omega arith)

sevens : (n i : ℕ) → ◌≡◌ {A = ℕ} (get_or (replicate n 7) i 0) 1 → ⊥
sevens zero i e = omega arith
sevens (suc n) zero e = omega arith
sevens (suc n) (suc i) e = sevens n i e

pub played : LedgerExample
unfolding slot_at slots same is_free held_by lowest has count_free slot_found marked with_mark marks_of refreshed free_by slot_found_by
    hold freed in_limits judged counted is_address bytes_of opened_by opened granting granted_by granted giving_back given_back_by
    given_back free_count listed address_of enter strike after_ask after_give step run after whole_boards
played =
    record {
      begins = record { accepted = refl; fresh = fresh; boards = refl };
      repeated = refl;
      full = refl;
      given = refl;
      unknown = refl;
      again = refl;
      holding = refl;
      memory = refl;
      left = refl;
      marked = refl;
      unmarked = refl;
      hidden = refl;
      elsewhere = refl;
      misled-begins = record { accepted = refl; fresh = λ k h. sevens 594 (9 * k); boards = refl };
      misled-holding = refl;
      misled-free = refl;
      misled-count = refl;
      misled-same = refl;
      misled-full = refl;
    }
