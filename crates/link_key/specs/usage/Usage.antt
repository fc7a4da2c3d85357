-- Document 01's usage list: the family and the MIC of each usage number, and what a family covers.
use Rattle.refusal.specs.declared.Refusal.{Refusal}
use Rattle.std.specs.Prelude.{ℕ, ◌%◌, Bool, cond, leb, eqb, Result, Ok, Err}
use Rattle.std.proofs.Math.Option.{Option, none, some}
use Rattle.refusal.specs.Refusal.{number_of}
use Rattle.refusal.specs.declared.Refusal.TheVariants.{Range}
use Rattle.link_key.specs.declared.usage.Family.{Family}
use Rattle.link_key.specs.declared.usage.Family.TheVariants.{K1K2Encrypted, K1K2, K1, K2, K2Encrypted}
use Rattle.link_key.specs.declared.usage.Usage.{Usage}

-- 0 to 2 K1K2 with encryption, 3 to 5 K1K2 without, 6 to 8 K1, 9 to 11 K2 without, 12 to 14 K2 with
abbrev pub family_of : ℕ → Family
family_of usage = cond (leb usage 2) K1K2Encrypted (cond (leb usage 5) K1K2 (cond (leb usage 8) K1 (cond (leb usage 11) K2 K2Encrypted)))

-- within a family the MIC is 32, 64, 128 bits
abbrev pub mic_of : ℕ → ℕ
mic_of usage = cond (eqb (usage % 3) 0) 32 (cond (eqb (usage % 3) 1) 64 128)

unfoldable pub usage_of : ℕ → Usage
usage_of usage = record { family = family_of usage; mic = mic_of usage }

-- a usage is 0 to 14
abbrev pub listed : ℕ → Bool
listed usage = leb usage 14

-- what the list answers for a number
unfoldable pub entry_at : ℕ → Result Usage Refusal
entry_at usage = cond (listed usage) (Ok (usage_of usage)) (Err Range)

-- the answer in document 01's terms: the refusal's number, 0 where there is none, and the entry, none where it is refused
abbrev pub entry_says : Result Usage Refusal → ℕ × Option Usage
entry_says (Err why) = (number_of why, none)
entry_says (Ok usage) = (0, some usage)

-- frame types are 0 beacon and 1 data; an acknowledgement counts as data
abbrev pub known_type : ℕ → Bool
known_type type = leb type 1

-- K1 covers beacons, K2 covers data, K1K2 both; none covers an unknown type
abbrev pub family_covers : Family → ℕ → Bool
family_covers K1K2Encrypted type = known_type type
family_covers K1K2 type = known_type type
family_covers K1 type = eqb type 0
family_covers K2 type = eqb type 1
family_covers K2Encrypted type = eqb type 1
