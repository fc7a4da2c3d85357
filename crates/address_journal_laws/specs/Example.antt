-- Non-vacuity: a shift with power cuts, computed. The memory was not zero before, and a byte follows the last slot.
use Rattle.std.specs.Prelude.{Err}
use Rattle.std.specs.Prelude.{ℕ, ◌≡◌, List, [], ◌∷◌, ◌++◌, length, replicate, take, drop, set, Ok}
use Rattle.address_ledger.specs.Ledger.{granted}
use Rattle.address_ledger_laws.specs.History.{Holding}
use Rattle.address_journal.specs.Crc32.{crc32}
use Rattle.address_journal.specs.Resume.{resume}
use Rattle.address_journal.specs.declared.resume.ResumeError.TheVariants.{Damaged}
use Rattle.address_journal_laws.specs.Journal.{grants, Event, answers, cuts, zeros, Program, program_after, lasting, changes}
use Rattle.address_journal_laws.specs.Laws.{Starts, holdings}

abbrev pub board : ℕ → List ℕ
board n = replicate 8 n

abbrev pub lent : List ℕ
lent = replicate 28 7

abbrev pub holding : ℕ → ℕ → Holding
holding n a = record { board = board n; address = a }

-- two boards get addresses; the power is cut while a third is granted one, with 7 bytes of its record in the file, and it is not
-- answered;
-- then a fourth asks
abbrev pub start : List Event
start = answers (grants (board 10)) ∷ answers (grants (board 11)) ∷ []

abbrev pub shift : List Event
shift = start ++ (cuts (grants (board 12)) 7 ∷ answers (grants (board 13)) ∷ [])

abbrev pub program : Program
program = program_after 0x1000 3 lent shift

pub record JournalExample : Type 0 where
  -- the check value of CRC-32: that of the digits 1 to 9
  pub vector : crc32 0 (0x31 ∷ 0x32 ∷ 0x33 ∷ 0x34 ∷ 0x35 ∷ 0x36 ∷ 0x37 ∷ 0x38 ∷ 0x39 ∷ []) ≡ 0xcbf43926
  pub starts : Starts 0x1000 3 lent (changes shift)
  pub lasts : lasting shift ≡ grants (board 10) ∷ grants (board 11) ∷ grants (board 13) ∷ []
  pub held : holdings 0x1000 3 lent shift ≡ holding 10 0x1000 ∷ holding 11 0x1001 ∷ holding 13 0x1002 ∷ []
  -- the fourth board has the address for which the third got no answer, and the file has three records
  pub memory : program.memory ≡ (1 ∷ board 10) ++ ((1 ∷ board 11) ++ ((1 ∷ board 13) ++ (7 ∷ [])))
  pub long : length program.file ≡ 64
  pub again : (granted program.ledger program.memory (board 10)).answer ≡ Ok 0x1000
  -- of the same cut with the whole record in the file, the third board holds the address though it got no answer; with zeros there, it
  -- does not
  pub whole : (program_after 0x1000 3 lent (start ++ (cuts (grants (board 12)) 16 ∷ []))).memory
      ≡ (1 ∷ board 10) ++ ((1 ∷ board 11) ++ ((1 ∷ board 12) ++ (7 ∷ [])))
  pub blank : (program_after 0x1000 3 lent (start ++ (zeros (grants (board 12)) ∷ []))).memory
      ≡ (1 ∷ board 10) ++ ((1 ∷ board 11) ++ replicate 10 7)
  -- the second record's board with another last byte: damage at offset 32
  pub damage : (resume lent (set program.file 40 12)).end.step ≡ Err Damaged
  pub offset : (resume lent (set program.file 40 12)).whole ≡ 32
  -- the first record taken out, and the second where it was: neither its check nor its address fits there
  pub missing : (resume lent (take 16 program.file ++ drop 32 program.file)).end.step ≡ Err Damaged
  -- a second fixture with the next range grants one of the same boards another address
  pub second : holdings 0x1003 3 lent start ≡ holding 10 0x1003 ∷ holding 11 0x1004 ∷ []
