-- A journal is read record by record, and the ledger is made again from it: a record is taken exactly where the call that it names
-- would append it.
use Rattle.std.specs.Prelude.{ℕ, zero, suc, ◌+◌, Bool, cond, List, eqb, leb, ltb, length, take, drop, Result, Ok, Err}
use Rattle.lemmas.specs.lists.Same.{same}
use Rattle.refusal.specs.Refusal.{number_of}
use Rattle.refusal.specs.Verdict.{Verdict}
use Rattle.address_ledger.specs.Ledger.{Outcome, empty_ledger, opened, granted, given_back}
use Rattle.address_ledger.specs.declared.answer.OpenResult.{OpenResult}
use Rattle.address_ledger.specs.declared.ledger.Ledger.{Ledger}
use Rattle.address_journal.specs.declared.resume.ResumeError.{ResumeError}
use Rattle.address_journal.specs.declared.resume.ResumeStep.{ResumeStep}
use Rattle.address_journal.specs.declared.resume.ResumeStep.TheVariants.{Taken, Cut}
use Rattle.address_journal.specs.declared.resume.ResumeError.TheVariants.{Damaged, Refused}
use Rattle.address_journal.specs.Format.{header_of, header_check, two_at, kind_in, board_in, zero_record}
use Rattle.address_journal.specs.Entry.{Entry, no_entry, grant_entry, back_entry}

-- the next 16 bytes were taken, or cut; else damaged, or the header's range is refused
abbrev pub Step : Type 0
Step = Result ResumeStep ResumeError

-- the number of an error: 23 is our own, no paper has it
abbrev pub error_number : ResumeError → ℕ
error_number Damaged = 23
error_number (Refused r) = number_of r

-- the number of a step that refuses; 0 of one that does not
abbrev pub step_number : Step → ℕ
step_number (Ok s) = 0
step_number (Err e) = error_number e

-- ---- one record

-- the step, and the ledger, the check and the memory afterwards
pub record Resumed : Type 0 where
  pub step : Step
  pub ledger : Ledger
  pub check : ℕ
  pub memory : List ℕ

abbrev pub resumed : Step → Ledger → ℕ → List ℕ → Resumed
resumed s l c m = record { step = s; ledger = l; check = c; memory = m }

-- the entry of the call of this kind, here; there are no other kinds than 1 and 2
unfoldable pub entry_here : ℕ → Ledger → List ℕ → List ℕ → ℕ → Entry
entry_here kind l m b c = cond (eqb kind 1) (grant_entry l m b c) (cond (eqb kind 2) (back_entry l m b c) (no_entry c))

unfoldable pub outcome_here : ℕ → Ledger → List ℕ → List ℕ → Outcome
outcome_here kind l m b = cond (eqb kind 1) (granted l m b) (given_back l m b)

-- the record is what its call appends here
abbrev pub fits : Ledger → List ℕ → ℕ → List ℕ → Bool
fits l m c r = same r (entry_here (kind_in r) l m (board_in r) c).bytes

abbrev pub taken : Entry → Outcome → Resumed
taken e o = resumed (Ok Taken) o.ledger e.check o.memory

-- fewer than 16 bytes, and 16 zeros, are a record that was never whole; any other that does not fit is damage, and nothing changes
unfoldable pub resume_record : Ledger → List ℕ → ℕ → List ℕ → Resumed
resume_record l m c r =
    cond (ltb (length r) 16) (resumed (Ok Cut) l c m)
    (cond (same r zero_record) (resumed (Ok Cut) l c m)
    (cond (fits l m c r) (taken (entry_here (kind_in r) l m (board_in r) c) (outcome_here (kind_in r) l m (board_in r)))
    (resumed (Err Damaged) l c m)))

-- ---- the header: it is what its range is written as, and the range is opened over the memory; RANGE or ROOM where that is refused.
-- Beside anything but Taken the ledger is the empty one, which every call refuses
unfoldable pub begun : ℕ → List ℕ → Ledger → Verdict → Resumed
begun next m l (Ok tt) = resumed (Ok Taken) l next m
begun next m l (Err r) = resumed (Err (Refused r)) empty_ledger 0 m

abbrev pub opened_as : ℕ → List ℕ → OpenResult → Resumed
opened_as next m o = begun next m o.ledger o.verdict

unfoldable pub resume_header : List ℕ → List ℕ → Resumed
resume_header m h =
    cond (ltb (length h) 16) (resumed (Ok Cut) empty_ledger 0 m)
    (cond (same h zero_record) (resumed (Ok Cut) empty_ledger 0 m)
    (cond (same h (header_of (two_at h 6) (two_at h 8)))
    (opened_as (header_check (two_at h 6) (two_at h 8)) m (opened (two_at h 6) (two_at h 8) m)) (resumed (Err Damaged) empty_ledger 0 m)))

-- ---- a whole journal

-- how reading ended, and how many bytes of the journal are whole: the offset of what was cut or damaged
pub record Restart : Type 0 where
  pub end : Resumed
  pub whole : ℕ

abbrev pub restart : Resumed → ℕ → Restart
restart s k = record { end = s; whole = k }

abbrev pub damaged_here : Resumed → Resumed
damaged_here s = resumed (Err Damaged) s.ledger s.check s.memory

-- the next 16 bytes were taken, and reading goes on; they were cut, and nothing may follow; or they are refused
unfoldable pub go_on : (Resumed → ℕ → List ℕ → Restart) → Resumed → ℕ → List ℕ → Step → Restart
go_on next s k bytes (Ok Taken) = next s (k + 16) (drop 16 bytes)
go_on next s k bytes (Ok Cut) = cond (leb (length bytes) 16) (restart s k) (restart (damaged_here s) k)
go_on next s k bytes (Err Damaged) = restart s k
go_on next s k bytes (Err (Refused r)) = restart s k

unfoldable pub resume_records : ℕ → Resumed → ℕ → List ℕ → Restart
resume_records zero s k bytes = restart (damaged_here s) k
resume_records (suc n) s k bytes =
    let r = resume_record s.ledger s.memory s.check (take 16 bytes) in
    go_on (resume_records n) r k bytes r.step

-- over memory m; a journal of n bytes has fewer than n + 1 records
unfoldable pub resume : List ℕ → List ℕ → Restart
resume m bytes =
    let r = resume_header m (take 16 bytes) in
    go_on (resume_records (suc (length bytes))) r 0 bytes r.step
