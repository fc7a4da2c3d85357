-- The journal of a history of calls, and histories with power cuts.
use Rattle.std.specs.Prelude.{ℕ, ◌-◌, cond, List, [], ◌∷◌, ◌++◌, leb, length, take}
use Rattle.address_ledger.specs.declared.ledger.Ledger.{Ledger}
use Rattle.address_ledger_laws.specs.History.{Call, asks, gives, Moment, step, after}
use Rattle.address_journal.specs.Format.{header_of, header_check, zero_record}
use Rattle.address_journal.specs.Entry.{Entry, grant_entry, back_entry}
use Rattle.address_journal.specs.Resume.{Restart, resume}

-- ---- the calls that can change a ledger: a board asks for an address, or gives its own back
pub data Change : Type 0 where
  grants : List ℕ → Change
  backs : List ℕ → Change

abbrev pub call_of : Change → Call
call_of (grants b) = asks b
call_of (backs b) = gives b

unfoldable pub calls_of : List Change → List Call
calls_of [] = []
calls_of (k ∷ ks) = call_of k ∷ calls_of ks

-- the moment after a history of changes on a fresh ledger
abbrev pub after_changes : ℕ → ℕ → List ℕ → List Change → Moment
after_changes first size m cs = after first size m (calls_of cs)

-- ---- what a call appends, and the check afterwards
unfoldable pub entry : Moment → ℕ → Change → Entry
entry s c (grants b) = grant_entry s.ledger s.memory b c
entry s c (backs b) = back_entry s.ledger s.memory b c

-- ---- the journal of a history
unfoldable pub records_from : ℕ → ℕ → Moment → ℕ → List Change → List ℕ
records_from first size s c [] = []
records_from first size s c (k ∷ ks) = (entry s c k).bytes ++ records_from first size (step first size s (call_of k)) (entry s c k).check ks

unfoldable pub check_from : ℕ → ℕ → Moment → ℕ → List Change → ℕ
check_from first size s c [] = c
check_from first size s c (k ∷ ks) = check_from first size (step first size s (call_of k)) (entry s c k).check ks

abbrev pub journal_of : ℕ → ℕ → List ℕ → List Change → List ℕ
journal_of first size m cs = header_of first size ++ records_from first size (after first size m []) (header_check first size) cs

abbrev pub check_after : ℕ → ℕ → List ℕ → List Change → ℕ
check_after first size m cs = check_from first size (after first size m []) (header_check first size) cs

-- the calls before the first whose record is not whole in n bytes
unfoldable pub whole_from : ℕ → ℕ → Moment → ℕ → ℕ → List Change → List Change
whole_from first size s c n [] = []
whole_from first size s c n (k ∷ ks) =
    cond (leb (length (entry s c k).bytes) n)
    (k ∷ whole_from first size (step first size s (call_of k)) (entry s c k).check (n - length (entry s c k).bytes) ks) []

abbrev pub whole_in : ℕ → ℕ → List ℕ → ℕ → List Change → List Change
whole_in first size m n cs = whole_from first size (after first size m []) (header_check first size) n cs

-- ---- histories with power cuts. Several cuts in a row are several events; a plain restart, and a cut while a cut record is dropped, are
-- cuts with no byte in the file
pub data Event : Type 0 where
  -- a call is made, its record is synced, and it is answered
  answers : Change → Event
  -- the power is cut during a call, which is not answered; so many bytes of its record are in the file, and the program starts again
  cuts : Change → ℕ → Event
  -- the same, and 16 zeros are in the file where the record was to be written
  zeros : Change → Event

-- a program that keeps a ledger, and its file
pub record Program : Type 0 where
  pub ledger : Ledger
  pub memory : List ℕ
  pub check : ℕ
  pub file : List ℕ

abbrev pub moment_of : Program → Moment
moment_of p = record { ledger = p.ledger; memory = p.memory; holding = [] }

-- the program starts again: the journal is resumed over cleared memory m, and what is not whole is cut off the file
abbrev pub resumed_as : List ℕ → Restart → Program
resumed_as file r = record { ledger = r.end.ledger; memory = r.end.memory; check = r.end.check; file = take r.whole file }

abbrev pub starts_again : List ℕ → List ℕ → Program
starts_again m file = resumed_as file (resume m file)

unfoldable pub after_event : ℕ → ℕ → List ℕ → Program → Event → Program
after_event first size m p (answers k) =
    let s = step first size (moment_of p) (call_of k) in
    let e = entry (moment_of p) p.check k in
    record { ledger = s.ledger; memory = s.memory; check = e.check; file = p.file ++ e.bytes }
after_event first size m p (cuts k n) = starts_again m (p.file ++ take n (entry (moment_of p) p.check k).bytes)
after_event first size m p (zeros k) = starts_again m (p.file ++ zero_record)

unfoldable pub after_events : ℕ → ℕ → List ℕ → Program → List Event → Program
after_events first size m p [] = p
after_events first size m p (e ∷ es) = after_events first size m (after_event first size m p e) es

-- a program on a new journal, over memory m
abbrev pub new_program : ℕ → ℕ → List ℕ → Program
new_program first size m =
    record {
      ledger = (after first size m []).ledger;
      memory = m;
      check = header_check first size;
      file = header_of first size;
    }

abbrev pub program_after : ℕ → ℕ → List ℕ → List Event → Program
program_after first size m es = after_events first size m (new_program first size m) es

-- the calls that last: every answered one, and of those that were cut the ones whose record is whole in the file
unfoldable pub lasting : List Event → List Change
lasting [] = []
lasting (answers k ∷ es) = k ∷ lasting es
lasting (cuts k n ∷ es) = cond (leb 16 n) (k ∷ lasting es) (lasting es)
lasting (zeros k ∷ es) = lasting es

-- every call of the events
unfoldable pub changes : List Event → List Change
changes [] = []
changes (answers k ∷ es) = k ∷ changes es
changes (cuts k n ∷ es) = k ∷ changes es
changes (zeros k ∷ es) = k ∷ changes es
