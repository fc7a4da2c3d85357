-- One byte that says which of several: a report (0 absent, 1 taken, 2 discarded), or a truth value (0 no, 1 yes).
use Rattle.std.specs.Prelude.{ℕ, zero, suc, Bool, true, false}
use Rattle.image.specs.Part.{Part, code}
use Rattle.cojp.specs.declared.disposition.Disposition.{Disposition}
use Rattle.cojp.specs.declared.disposition.Disposition.TheVariants.{Absent, Taken, Discarded}

abbrev pub disposition_number : Disposition → ℕ
disposition_number Absent = 0
disposition_number Taken = 1
disposition_number Discarded = 2

-- of a number over 2, which no image has, too
abbrev pub disposition_of : ℕ → Disposition
disposition_of zero = Absent
disposition_of (suc zero) = Taken
disposition_of (suc (suc n)) = Discarded

abbrev pub disposition_part : Part Disposition
disposition_part = code disposition_number disposition_of 2

abbrev pub bool_number : Bool → ℕ
bool_number false = 0
bool_number true = 1

abbrev pub bool_of : ℕ → Bool
bool_of zero = false
bool_of (suc n) = true

abbrev pub bool_part : Part Bool
bool_part = code bool_number bool_of 1
