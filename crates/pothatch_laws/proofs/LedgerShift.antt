-- The shift of the example, computed call by call.
use Prim.Native.Nat.{ℕ, zero, suc, ◌*◌}
use mathlib.Core.Path.{◌≡◌, refl}
use mathlib.Core.List.{List, ◌∷◌, ◌++◌}
use native.Mathlib.Omega.{arith}
use lib.ListN.{get_or, replicate}
use Rattle.byte_io.specs.BigEndian.{digits, bytes_of}
use Rattle.short_address.specs.Address as address
use Rattle.address_slots.specs.Slot.{slot_at, slots, same, is_free, held_by, lowest, has, hold}
use Rattle.address_slots.specs.Marks.{marked, with_mark, refreshed, free_by, slot_found_by}
use Rattle.address_ledger.specs.range.Range.{in_limits, judged, counted}
use Rattle.address_ledger.specs.Ledger.{ledger_of, granting, granted_by, granted}
use Rattle.address_ledger_laws.specs.Demand1.{perform}
use Rattle.address_ledger_laws.specs.History.{listed, enter, after_ask}
use Rattle.state_image.specs.Ledger.{ledger_image}
use Rattle.pothatch_laws.specs.LedgerHistory.{over, then, first_board, second_board, LedgerHistoryExample}

-- a struct of the range with this count and this summary
abbrev struct : ℕ → ℕ → List ℕ
struct free summary = ledger_image.put (ledger_of 0x1000 2 free summary)

-- the memory after the first board's grant, and after the second's
abbrev one-held : List ℕ
one-held = (1 ∷ first_board) ++ replicate 9 0

abbrev two-held : List ℕ
two-held = (1 ∷ first_board) ++ (1 ∷ second_board)

no-mark : (n i : ℕ) → ◌≡◌ {A = ℕ} (get_or (replicate n 0) i 0) 1 → ⊥
no-mark zero i e = omega arith
no-mark (suc n) zero e = omega arith
no-mark (suc n) (suc i) e = no-mark n i e

pub shift-played : LedgerHistoryExample
unfolding digits bytes_of address.is_address address.bytes_of slot_at slots same is_free held_by lowest has hold marked with_mark refreshed free_by
    slot_found_by in_limits judged counted granting granted_by granted perform listed enter after_ask
shift-played = record {
  fresh = record { accepted = refl; fresh = λ k h. no-mark 18 (9 * k) };
  shift =
      then {s = struct 7 1} {s' = struct 2 1} {m' = one-held} {r = 0} {v = 0x1000}
      (record { image = refl; starts = refl; sized = refl })
      (record { number = refl; ledger = refl; memory = refl; value = refl })
      (then {s = struct 5 0} {s' = struct 5 0} {m' = one-held} {r = 17} {v = 0}
      (record { image = refl; starts = refl; sized = refl })
      (record { number = refl; ledger = refl; memory = refl; value = refl })
      (then {s = struct 0 1} {s' = struct 0 0} {m' = two-held} {r = 0} {v = 0x1001}
      (record { image = refl; starts = refl; sized = refl })
      (record { number = refl; ledger = refl; memory = refl; value = refl })
      over));
}
