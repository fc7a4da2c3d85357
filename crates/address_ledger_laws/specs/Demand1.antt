-- Demand 1 for the ledger: every call answers, a refusal has its number and changes neither the ledger nor the
-- lent memory, and its value is 0.
use Rattle.std.specs.Prelude.{ℕ, zero, suc, ◌*◌, ◌/◌, ◌≡◌, Bool, false, cond, ◌&&◌, ◌||◌, List, leb, length, take, drop, Err}
use Rattle.refusal.specs.Verdict.{verdict_number}
use Rattle.refusal.specs.declared.Refusal.{Refusal}
use Rattle.refusal.specs.Verdict.{Verdict}
use Rattle.address_slots.specs.Slot.{Slot, held_by, is_free, has}
use Rattle.address_slots.specs.Marks.{marked}
use Rattle.address_ledger.specs.range.Range.{in_limits}
use Rattle.address_ledger.specs.Ledger.{places_of, empty_ledger, opened, granted, given_back, free_count}
use Rattle.address_ledger.specs.Answers.{address_verdict, address_value, free_verdict, free_value}
use Rattle.address_ledger.specs.declared.ledger.Ledger.{Ledger}

-- the calls, with what they are handed beside the ledger and the memory
pub data LedgerCall : Type 0 where
  -- first address, size
  opening : ℕ → ℕ → LedgerCall
  -- the board
  asking : List ℕ → LedgerCall
  returning : List ℕ → LedgerCall
  counting : LedgerCall

-- a call that was made: verdict and value, the ledger that it hands back, and the memory afterwards
pub record Performed : Type 0 where
  pub verdict : Verdict
  pub value : ℕ
  pub ledger : Ledger
  pub memory : List ℕ

abbrev pub performed : Verdict → ℕ → Ledger → List ℕ → Performed
performed v n l m = record { verdict = v; value = n; ledger = l; memory = m }

unfoldable pub perform : LedgerCall → Ledger → List ℕ → Performed
perform (opening first size) l m = performed (opened first size m).verdict 0 (opened first size m).ledger m
perform (asking b) l m =
    performed (address_verdict (granted l m b).answer) (address_value (granted l m b).answer) (granted l m b).ledger
    (granted l m b).memory
perform (returning b) l m =
    performed (address_verdict (given_back l m b).answer) (address_value (given_back l m b).answer) (given_back l m b).ledger
    (given_back l m b).memory
perform counting l m = performed (free_verdict (free_count l)) (free_value (free_count l)) l m

-- a ledger that was not opened is the empty one; every other call hands the ledger back
abbrev pub ledger_left : LedgerCall → Ledger → Ledger
ledger_left (opening first size) l = empty_ledger
ledger_left (asking b) l = l
ledger_left (returning b) l = l
ledger_left counting l = l

pub record Untouched (c : LedgerCall) (l : Ledger) (m : List ℕ) (p : Performed) : Type 0 where
  pub value : p.value ≡ 0
  pub ledger : p.ledger ≡ ledger_left c l
  pub memory : p.memory ≡ m

-- ---- the numbers, and exactly when each is given; 0 where the call is accepted

-- the first address and the size of the range that a call is about
abbrev pub first_of : LedgerCall → Ledger → ℕ
first_of (opening first size) l = first
first_of (asking b) l = l.first
first_of (returning b) l = l.first
first_of counting l = l.first

abbrev pub size_of : LedgerCall → Ledger → ℕ
size_of (opening first size) l = size
size_of (asking b) l = l.size
size_of (returning b) l = l.size
size_of counting l = l.size

-- whether one of so many groups is marked and has a free address
unfoldable pub offers : ℕ → ℕ → List Slot → Bool
offers zero x ps = false
offers (suc n) x ps = ((marked zero x && has is_free (take 64 ps)) || offers n (x / 2) (drop 64 ps))

-- FULL: no marked group has a free address and the board holds none; UNKNOWN: the board holds none
abbrev pub own_number : LedgerCall → Ledger → List ℕ → ℕ
own_number (opening first size) l m = 0
own_number (asking b) l m = cond (has (held_by b) (places_of l m) || offers 64 l.summary (places_of l m)) 0 17
own_number (returning b) l m = cond (has (held_by b) (places_of l m)) 0 18
own_number counting l m = 0

-- ROOM is not asked of the question how many are free, to which no memory is lent
abbrev pub room_number : LedgerCall → Ledger → List ℕ → ℕ
room_number (opening first size) l m = cond (leb (9 * size) (length m)) 0 12
room_number (asking b) l m = cond (leb (9 * l.size) (length m)) (own_number (asking b) l m) 12
room_number (returning b) l m = cond (leb (9 * l.size) (length m)) (own_number (returning b) l m) 12
room_number counting l m = 0

-- RANGE, ROOM, then the call's own
unfoldable pub refusal_number : LedgerCall → Ledger → List ℕ → ℕ
refusal_number c l m = cond (in_limits (first_of c l) (size_of c l)) (room_number c l m) 13

pub record Demand1 : Type 0 where
  pub untouched : (c : LedgerCall) (l : Ledger) (m : List ℕ) (r : Refusal) → (perform c l m).verdict ≡ Err r
      → Untouched c l m (perform c l m)
  pub numbers : (c : LedgerCall) (l : Ledger) (m : List ℕ) → verdict_number (perform c l m).verdict ≡ refusal_number c l m
