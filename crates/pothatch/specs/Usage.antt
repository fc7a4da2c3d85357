-- What a key's usage means for the radio, by document 01's usage list (004, Table 3): whether data frames and acknowledgements are
-- encrypted, and the bytes of a frame's MIC. Beacons are never encrypted.
use Rattle.link_key.specs.declared.usage.Usage.{Usage}
use Rattle.refusal.specs.declared.Refusal.{Refusal}
use Rattle.std.specs.Prelude.{ℕ, ◌/◌, ◌≡◌, Result, Ok, Err}
use Rattle.link_key.specs.declared.usage.Family.{Family}
use Rattle.link_key.specs.declared.usage.Family.TheVariants.{K1K2Encrypted, K1K2, K1, K2, K2Encrypted}
use Rattle.link_key.specs.usage.Usage.{entry_at, entry_says}
use Rattle.pothatch.specs.Wide.{code_of}

-- of data frames and acknowledgements: 1 with encryption, 0 without
abbrev pub encryption : Family → ℕ
encryption K1K2Encrypted = 1
encryption K1K2 = 0
encryption K1 = 0
encryption K2 = 0
encryption K2Encrypted = 1

abbrev pub encryption_in : Result Usage Refusal → ℕ
encryption_in (Err why) = 0
encryption_in (Ok usage) = encryption usage.family

-- a MIC has 32, 64 or 128 bits: 4, 8 or 16 bytes; 0 beside a refusal
abbrev pub mic_length : Result Usage Refusal → ℕ
mic_length (Err why) = 0
mic_length (Ok usage) = usage.mic / 8

-- the number r was answered, and the numbers hold e and m afterwards
pub record UsageSpec (usage r e m : ℕ) : Type 0 where
  pub number : r ≡ (entry_says (entry_at (code_of usage))).0
  pub encrypted : e ≡ encryption_in (entry_at (code_of usage))
  pub mic-length : m ≡ mic_length (entry_at (code_of usage))
