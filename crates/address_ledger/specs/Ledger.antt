-- The calls of a ledger: what each answers, and the ledger and the lent memory afterwards.
-- RANGE comes first, and ROOM next where memory is lent.
use Rattle.refusal.specs.declared.Refusal.{Refusal}
use Rattle.std.specs.Prelude.{ℕ, ◌+◌, ◌-◌, cond, List, leb, length, Result, Ok, Err}
use Rattle.refusal.specs.declared.Refusal.TheVariants.{Range, Full, Unknown}
use Rattle.refusal.specs.Verdict.{Verdict}
use Rattle.address_slots.specs.Slot.{Slot, slots, hold, freed, slot_found}
use Rattle.address_slots.specs.Marks.{summary_of, refreshed, slot_found_by}
use Rattle.address_slots.specs.declared.groups.Summary.{Summary}
use Rattle.address_slots.specs.declared.slot.SlotFound.{SlotFound}
use Rattle.address_slots.specs.declared.slot.SlotFound.TheVariants.{Held, Free, Nothing}
use Rattle.address_ledger.specs.range.Range.{in_limits, judged, counted}
use Rattle.address_ledger.specs.declared.answer.CallResult.{CallResult}
use Rattle.address_ledger.specs.declared.answer.OpenResult.{OpenResult}
use Rattle.address_ledger.specs.declared.ledger.Ledger.{Ledger}

-- what a call answers, and the ledger and the memory as it leaves them
pub record Outcome : Type 0 where
  pub answer : Result ℕ Refusal
  pub ledger : Ledger
  pub memory : List ℕ

abbrev pub outcome : Result ℕ Refusal → Ledger → List ℕ → Outcome
outcome a l m = record { answer = a; ledger = l; memory = m }

abbrev pub answered : Result ℕ Refusal → Ledger → CallResult
answered a l = record { answer = a; ledger = l }

abbrev pub judged_of : Ledger → List ℕ → Verdict
judged_of l m = judged l.first l.size (length m)

abbrev pub counted_of : Ledger → ℕ
counted_of l = counted l.first l.size

-- the places of the addresses that count
abbrev pub places_of : Ledger → List ℕ → List Slot
places_of l m = slots (counted_of l) m

-- ---- opening: the memory is only read
abbrev pub ledger_of : ℕ → ℕ → ℕ → ℕ → Ledger
ledger_of first size free marks = record { first = first; size = size; free = free; summary = marks }

abbrev pub empty_ledger : Ledger
empty_ledger = ledger_of 0 0 0 0

-- count and marks as one walk of the places finds them
abbrev pub with_summary : ℕ → ℕ → Summary → Ledger
with_summary first size s = ledger_of first size s.free s.bitmap

unfoldable pub opened_by : Verdict → ℕ → ℕ → List ℕ → OpenResult
opened_by (Ok tt) first size m =
    record { verdict = Ok tt; ledger = with_summary first size (summary_of (slots (counted first size) m)) }
opened_by (Err r) first size m = record { verdict = Err r; ledger = empty_ledger }

unfoldable pub opened : ℕ → ℕ → List ℕ → OpenResult
opened first size m = opened_by (judged first size (length m)) first size m

-- ---- the kept count: it moves by one, and is then cut to 0 or how many addresses count
abbrev pub cut : ℕ → ℕ → ℕ
cut n x = cond (leb x n) x n

-- ---- the ledger after place k, one of n, was written and the memory is m: the count has moved, and the group of the place is marked anew
abbrev pub fewer : ℕ → ℕ → List ℕ → Ledger → Ledger
fewer n k m l = ledger_of l.first l.size (cut n (l.free - 1)) (refreshed l.summary k (slots n m))

abbrev pub more : ℕ → ℕ → List ℕ → Ledger → Ledger
more n k m l = ledger_of l.first l.size (cut n (l.free + 1)) (refreshed l.summary k (slots n m))

-- ---- granting, where n addresses count: the address that the board holds, again;
-- else the free one that was found, and its place is written; else FULL
unfoldable pub granting : ℕ → Ledger → List ℕ → List ℕ → SlotFound → Outcome
granting n l m b (Held k) = outcome (Ok (l.first + k)) l m
granting n l m b (Free k) = outcome (Ok (l.first + k)) (fewer n k (hold m k b) l) (hold m k b)
granting n l m b Nothing = outcome (Err Full) l m

-- a free address is found by the marks
unfoldable pub granted_by : Verdict → Ledger → List ℕ → List ℕ → Outcome
granted_by (Ok tt) l m b = granting (counted_of l) l m b (slot_found_by l.summary b (places_of l m))
granted_by (Err r) l m b = outcome (Err r) l m

unfoldable pub granted : Ledger → List ℕ → List ℕ → Outcome
granted l m b = granted_by (judged_of l m) l m b

-- ---- giving back, where n addresses count: the address that the board holds, and its mark is written; else UNKNOWN
unfoldable pub giving_back : ℕ → Ledger → List ℕ → SlotFound → Outcome
giving_back n l m (Held k) = outcome (Ok (l.first + k)) (more n k (freed m k) l) (freed m k)
giving_back n l m (Free k) = outcome (Err Unknown) l m
giving_back n l m Nothing = outcome (Err Unknown) l m

unfoldable pub given_back_by : Verdict → Ledger → List ℕ → List ℕ → Outcome
given_back_by (Ok tt) l m b = giving_back (counted_of l) l m (slot_found b (places_of l m))
given_back_by (Err r) l m b = outcome (Err r) l m

unfoldable pub given_back : Ledger → List ℕ → List ℕ → Outcome
given_back l m b = given_back_by (judged_of l m) l m b

-- ---- how many addresses are free: the kept count, without the memory
unfoldable pub free_count : Ledger → Result ℕ Refusal
free_count l = cond (in_limits l.first l.size) (Ok l.free) (Err Range)
