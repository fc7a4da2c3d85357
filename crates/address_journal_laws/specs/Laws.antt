-- What a journal guarantees. A prefix of a list of events is a list of events, so each law holds at every moment of a shift.
use Rattle.std.specs.Prelude.{ℕ, ◌+◌, ◌≤◌, ◌<◌, ◌≡◌, true, ◌⊎◌, length, take, Ok}
use mathlib.Core.List.{List, ◌++◌, Memᴰ}
use Rattle.address_ledger.specs.Ledger.{empty_ledger, outcome, granted}
use Rattle.address_ledger_laws.specs.History.{Holding, listed, address_of, Begins}
use Rattle.address_journal.specs.declared.resume.ResumeStep.TheVariants.{Cut}
use Rattle.address_journal.specs.Resume.{Restart, restart, resumed, resume}
use Rattle.address_journal.specs.Share.{part_of}
use Rattle.address_journal_laws.specs.Journal.{Change, calls_of, after_changes, journal_of, check_after, whole_in}
use Rattle.address_journal_laws.specs.Journal.{Event, Program, program_after, lasting, changes}

-- a fresh ledger, and calls of boards with 8-byte identifiers
abbrev pub Starts : ℕ → ℕ → List ℕ → List Change → Type 0
Starts first size m cs = Begins first size m (calls_of cs)

-- the ledger, the memory and the check after a history, and the length of its journal
abbrev pub restarted : ℕ → ℕ → List ℕ → List Change → Restart
restarted first size m cs =
    restart (resumed (Ok Cut) (after_changes first size m cs).ledger (check_after first size m cs) (after_changes first size m cs).memory)
    (length (journal_of first size m cs))

-- ---- any prefix of a journal, resumed over the same memory, gives what the calls whose records are whole in it gave
pub record PrefixResumes : Type 0 where
  pub resumes : (first size : ℕ) (m : List ℕ) (cs : List Change) → Starts first size m cs
      → (n : ℕ) → resume m (take (16 + n) (journal_of first size m cs)) ≡ restarted first size m (whole_in first size m n cs)
  -- the prefix is the journal of those calls and fewer than 16 bytes more
  pub whole : (first size : ℕ) (m : List ℕ) (cs : List Change) → Starts first size m cs → (n : ℕ)
      → (t : List ℕ) × ((take (16 + n) (journal_of first size m cs) ≡ journal_of first size m (whole_in first size m n cs) ++ t) ×
      (length t < 16))
  -- a cut header: nothing was granted, and nothing is
  pub unopened : (first size : ℕ) (m : List ℕ) (cs : List Change) (n : ℕ) → n < 16
      → resume m (take n (journal_of first size m cs)) ≡ restart (resumed (Ok Cut) empty_ledger 0 m) 0

-- ---- after any calls and power cuts the program and its file are as the calls that last leave them
pub record IsAfter (first size : ℕ) (m : List ℕ) (cs : List Change) (p : Program) : Type 0 where
  pub ledger : p.ledger ≡ (after_changes first size m cs).ledger
  pub memory : p.memory ≡ (after_changes first size m cs).memory
  pub check : p.check ≡ check_after first size m cs
  pub file : p.file ≡ journal_of first size m cs

-- who holds what after the events
abbrev pub holdings : ℕ → ℕ → List ℕ → List Event → List Holding
holdings first size m es = (after_changes first size m (lasting es)).holding

pub record PowerCuts : Type 0 where
  pub is-after : (first size : ℕ) (m : List ℕ) (es : List Event) → Starts first size m (changes es)
      → IsAfter first size m (lasting es) (program_after first size m es)
  -- no two boards hold one address
  pub one : (first size : ℕ) (m : List ℕ) (es : List Event) → Starts first size m (changes es)
      → (g h : Holding) → Memᴰ g (holdings first size m es) → Memᴰ h (holdings first size m es)
      → g.address ≡ h.address → g.board ≡ h.board
  -- a board that holds an address is granted the same again
  pub again : (first size : ℕ) (m : List ℕ) (es : List Event) → Starts first size m (changes es)
      → (b : List ℕ) → listed b (holdings first size m es) ≡ true
      → granted (program_after first size m es).ledger (program_after first size m es).memory b
      ≡ outcome (Ok (address_of b (holdings first size m es))) (program_after first size m es).ledger
      (program_after first size m es).memory

-- ---- several fixtures, each with its own range, memory and file: what one holds no other holds
abbrev pub Apart : ℕ → ℕ → ℕ → ℕ → Type 0
Apart first size first' size' = (first + size ≤ first') ⊎ (first' + size' ≤ first)

unfoldable pub ApartFixtures : Type 0
ApartFixtures =
    (first size : ℕ) (m : List ℕ) (es : List Event) → Starts first size m (changes es)
    → (first' size' : ℕ) (m' : List ℕ) (es' : List Event) → Starts first' size' m' (changes es')
    → Apart first size first' size'
    → (g h : Holding) → Memᴰ g (holdings first size m es) → Memᴰ h (holdings first' size' m' es')
    → g.address ≡ h.address → ⊥

-- ---- the parts of a range that fixtures share do not meet, whatever is asked for
unfoldable pub SharesApart : Type 0
SharesApart =
    (first size n j k : ℕ) → j < k
    → Apart (part_of first size j n).first (part_of first size j n).size (part_of first size k n).first (part_of first size k n).size
