-- Which damage is found. A record is taken only where its call appends it; after one check, of one kind and one board, there is one such
-- record; and a record with one changed byte is never taken. More changed bytes of kind and board rest on CRC-32: 1 of 2^32 changes fits.
use Rattle.std.specs.Prelude.{Ok, Err}
use Rattle.std.specs.Prelude.{ℕ, ◌<◌, ◌≡◌, List, get_or, set}
use Rattle.address_ledger.specs.declared.ledger.Ledger.{Ledger}
use Rattle.address_journal.specs.Format.{kind_in, board_in}
use Rattle.address_journal.specs.Resume.{resumed, entry_here, resume_record}
use Rattle.address_journal.specs.declared.resume.ResumeStep.TheVariants.{Taken}
use Rattle.address_journal.specs.declared.resume.ResumeError.TheVariants.{Damaged}

abbrev pub Octets : List ℕ → Type 0
Octets s = (i : ℕ) → get_or s i 0 < 256

abbrev pub IsTaken : Ledger → List ℕ → ℕ → List ℕ → Type 0
IsTaken l m c r = (resume_record l m c r).step ≡ Ok Taken

pub record DamageFound : Type 0 where
  -- a record that is taken is the one that its call appends here
  pub own : (l : Ledger) (m : List ℕ) (c : ℕ) (r : List ℕ) → IsTaken l m c r → r ≡ (entry_here (kind_in r) l m (board_in r) c).bytes
  pub one-record : (l : Ledger) (m : List ℕ) (c : ℕ) (r q : List ℕ) → IsTaken l m c r → IsTaken l m c q
      → kind_in r ≡ kind_in q → board_in r ≡ board_in q → r ≡ q
  pub one_byte : (l : Ledger) (m : List ℕ) (c : ℕ) (r : List ℕ) → c < 0x100000000 → Octets r → IsTaken l m c r
      → (i v : ℕ) → i < 16 → v < 256 → (get_or r i 0 ≡ v → ⊥) → IsTaken l m c (set r i v) → ⊥
  -- damage changes neither ledger nor memory
  pub unchanged : (l : Ledger) (m : List ℕ) (c : ℕ) (r : List ℕ) → (resume_record l m c r).step ≡ Err Damaged
      → resume_record l m c r ≡ resumed (Err Damaged) l c m
