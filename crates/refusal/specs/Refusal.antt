-- The table of refusals, document 01's sixteen and the six that document 02 adds: the number and the name of each.
use Rattle.std.specs.Prelude.{ℕ, zero, suc, ◌-◌, ◌≤◌, List, [], ◌∷◌, ◌++◌, length}
use Rattle.refusal.specs.declared.Refusal.{Refusal}
use Rattle.refusal.specs.declared.Refusal.TheVariants.{Cut, Form, Deep, Extra, «Type», Twice, Keys, Role, Owed, Clash, Clock, Room}
use Rattle.refusal.specs.declared.Refusal.TheVariants.{Range, Silent, Long, Phase, Full, Unknown, Loose, Seal, Spent, Stale}

-- the number, 1 to 22
abbrev pub number_of : Refusal → ℕ
number_of Cut = 1
number_of Form = 2
number_of Deep = 3
number_of Extra = 4
number_of «Type» = 5
number_of Twice = 6
number_of Keys = 7
number_of Role = 8
number_of Owed = 9
number_of Clash = 10
number_of Clock = 11
number_of Room = 12
number_of Range = 13
number_of Silent = 14
number_of Long = 15
number_of Phase = 16
number_of Full = 17
number_of Unknown = 18
number_of Loose = 19
number_of Seal = 20
number_of Spent = 21
number_of Stale = 22

-- the letters of the name, in ASCII
abbrev pub letters_of : Refusal → List ℕ
letters_of Cut = 0x43 ∷ 0x55 ∷ 0x54 ∷ []  -- CUT
letters_of Form = 0x46 ∷ 0x4f ∷ 0x52 ∷ 0x4d ∷ []  -- FORM
letters_of Deep = 0x44 ∷ 0x45 ∷ 0x45 ∷ 0x50 ∷ []  -- DEEP
letters_of Extra = 0x45 ∷ 0x58 ∷ 0x54 ∷ 0x52 ∷ 0x41 ∷ []  -- EXTRA
letters_of «Type» = 0x54 ∷ 0x59 ∷ 0x50 ∷ 0x45 ∷ []  -- TYPE
letters_of Twice = 0x54 ∷ 0x57 ∷ 0x49 ∷ 0x43 ∷ 0x45 ∷ []  -- TWICE
letters_of Keys = 0x4b ∷ 0x45 ∷ 0x59 ∷ 0x53 ∷ []  -- KEYS
letters_of Role = 0x52 ∷ 0x4f ∷ 0x4c ∷ 0x45 ∷ []  -- ROLE
letters_of Owed = 0x4f ∷ 0x57 ∷ 0x45 ∷ 0x44 ∷ []  -- OWED
letters_of Clash = 0x43 ∷ 0x4c ∷ 0x41 ∷ 0x53 ∷ 0x48 ∷ []  -- CLASH
letters_of Clock = 0x43 ∷ 0x4c ∷ 0x4f ∷ 0x43 ∷ 0x4b ∷ []  -- CLOCK
letters_of Room = 0x52 ∷ 0x4f ∷ 0x4f ∷ 0x4d ∷ []  -- ROOM
letters_of Range = 0x52 ∷ 0x41 ∷ 0x4e ∷ 0x47 ∷ 0x45 ∷ []  -- RANGE
letters_of Silent = 0x53 ∷ 0x49 ∷ 0x4c ∷ 0x45 ∷ 0x4e ∷ 0x54 ∷ []  -- SILENT
letters_of Long = 0x4c ∷ 0x4f ∷ 0x4e ∷ 0x47 ∷ []  -- LONG
letters_of Phase = 0x50 ∷ 0x48 ∷ 0x41 ∷ 0x53 ∷ 0x45 ∷ []  -- PHASE
letters_of Full = 0x46 ∷ 0x55 ∷ 0x4c ∷ 0x4c ∷ []  -- FULL
letters_of Unknown = 0x55 ∷ 0x4e ∷ 0x4b ∷ 0x4e ∷ 0x4f ∷ 0x57 ∷ 0x4e ∷ []  -- UNKNOWN
letters_of Loose = 0x4c ∷ 0x4f ∷ 0x4f ∷ 0x53 ∷ 0x45 ∷ []  -- LOOSE
letters_of Seal = 0x53 ∷ 0x45 ∷ 0x41 ∷ 0x4c ∷ []  -- SEAL
letters_of Spent = 0x53 ∷ 0x50 ∷ 0x45 ∷ 0x4e ∷ 0x54 ∷ []  -- SPENT
letters_of Stale = 0x53 ∷ 0x54 ∷ 0x41 ∷ 0x4c ∷ 0x45 ∷ []  -- STALE

-- so many zeros
abbrev pub zeros : ℕ → List ℕ
zeros zero = []
zeros (suc n) = 0 ∷ zeros n

-- the name in eight bytes
abbrev pub name_of : Refusal → List ℕ
name_of r = letters_of r ++ zeros (8 - length (letters_of r))

-- every refusal has a number from 1 to 22
pub record Numbered : Type 0 where
  pub least : (k : Refusal) → 1 ≤ number_of k
  pub most : (k : Refusal) → number_of k ≤ 22
