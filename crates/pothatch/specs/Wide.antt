-- Codes that C hands over as numbers of eight bytes, so that none is cut off before the call. 01, refusal 13: RANGE where "an object or
-- number handed in is outside its limits".
use Rattle.std.specs.Prelude.{ℕ, cond, leb}

-- a version, a role, a frame type, whether there is a network identifier (0 and 1 are defined), or a usage (0 to 14): a number that no
-- byte holds is undefined as 255 is
abbrev pub code_of : ℕ → ℕ
code_of n = cond (leb n 255) n 255

-- a key identifier: 1 to 255 are defined, so a number that no byte holds is undefined as 0 is
abbrev pub identifier_of : ℕ → ℕ
identifier_of n = cond (leb n 255) n 0
