-- Network identifiers and prefixes (0 to 16 bytes) and JRC addresses (16 bytes): byte strings.
use Rattle.std.specs.Prelude.{ℕ, ◌+◌, ◌-◌, cond, ◌&&◌, List, ◌++◌, leb, length, take, drop, replicate}
use Rattle.cbor.specs.View.{number, minus, string, other, View, scalar, list}
use Rattle.cojp.specs.Reading.{Reading, read, Judgement, broken, unfit, good, concluded}
use Rattle.cojp.specs.declared.octets.Octets.{Octets}
use Rattle.cojp.specs.declared.octets.OctetsParameter.{OctetsParameter}
use Rattle.cojp.specs.declared.disposition.Disposition.{Disposition}
use Rattle.cojp.specs.declared.disposition.Disposition.TheVariants.{Taken, Discarded}

-- the bytes, and zeros up to n of them
unfoldable pub padded : ℕ → List ℕ → List ℕ
padded n s = s ++ replicate (n - length s) 0

-- n bytes of s from a place on, and zeros up to 16 of them; all zero where s has no such bytes or they are more than 16
abbrev pub copied_from : List ℕ → ℕ → ℕ → List ℕ
copied_from s at n = cond (leb n 16 && leb (at + n) (length s)) (padded 16 (take n (drop at s))) (replicate 16 0)

abbrev pub octets_of : List ℕ → Octets
octets_of s = record { len = length s; bytes = padded 16 s }

abbrev pub no_octets : Octets
no_octets = record { len = 0; bytes = replicate 16 0 }

-- what they mean
abbrev pub bytes_in : Octets → List ℕ
bytes_in o = take o.len o.bytes

-- ---- the parameter
abbrev pub octets_parameter : Disposition → Octets → OctetsParameter
octets_parameter r o = record { disposition = r; value = o }

abbrev pub no_octets_parameter : Disposition → OctetsParameter
no_octets_parameter r = octets_parameter r no_octets

-- ---- reading
-- a byte string of `least` to 16 bytes
unfoldable pub octets_judged : ℕ → View → Judgement Octets
octets_judged least (scalar (string s)) = cond (leb least (length s) && leb (length s) 16) (good (octets_of s)) unfit
octets_judged least (scalar (number n)) = broken
octets_judged least (scalar (minus n)) = broken
octets_judged least (scalar other) = broken
octets_judged least (list ps) = broken

-- one of another length is discarded
abbrev pub octets_read : ℕ → View → Reading OctetsParameter
octets_read least v = concluded (read (no_octets_parameter Discarded)) (octets_parameter Taken) (octets_judged least v)
