-- Short addresses: an array of a byte string and optionally an unsigned lease, in seconds, in the published form in hours.
use Rattle.std.specs.Prelude.{ℕ, Bool, true, false, cond, List, [], ◌∷◌, replicate}
use Rattle.short_address.specs.Address.{is_address}
use Rattle.cbor.specs.View.{Scalar, number, minus, string, other, View, scalar, list}
use Rattle.cojp.specs.Reading.{Reading, read, Judgement, broken, unfit, good, concluded}
use Rattle.cojp.specs.declared.address.ShortAddress.{ShortAddress}
use Rattle.cojp.specs.declared.address.AddressParameter.{AddressParameter}
use Rattle.cojp.specs.declared.disposition.Disposition.{Disposition}
use Rattle.cojp.specs.declared.disposition.Disposition.TheVariants.{Taken, Discarded}

abbrev pub address_of : List ℕ → Bool → ℕ → ShortAddress
address_of s leased lease = record { bytes = s; leased = leased; lease = lease }

abbrev pub no_address : ShortAddress
no_address = address_of (replicate 2 0) false 0

-- ---- the parameter
abbrev pub address_parameter : Disposition → ShortAddress → AddressParameter
address_parameter r a = record { disposition = r; value = a }

abbrev pub no_address_parameter : Disposition → AddressParameter
no_address_parameter r = address_parameter r no_address

-- ---- reading
abbrev pub address_by : List ℕ → Bool → ℕ → Judgement ShortAddress
address_by s leased lease = cond (is_address s) (good (address_of s leased lease)) unfit

-- an absent lease means no end
unfoldable pub address_in : List Scalar → Judgement ShortAddress
address_in [] = broken
address_in (number n ∷ r) = broken
address_in (minus n ∷ r) = broken
address_in (other ∷ r) = broken
address_in (string s ∷ []) = address_by s false 0
address_in (string s ∷ number n ∷ []) = address_by s true n
address_in (string s ∷ number n ∷ p ∷ r) = broken
address_in (string s ∷ string t ∷ r) = broken
address_in (string s ∷ minus n ∷ r) = broken
address_in (string s ∷ other ∷ r) = broken

abbrev pub address_judged : View → Judgement ShortAddress
address_judged (scalar p) = broken
address_judged (list ps) = address_in ps

-- one that is no address is discarded
abbrev pub address_concluded : Judgement ShortAddress → Reading AddressParameter
address_concluded j = concluded (read (no_address_parameter Discarded)) (address_parameter Taken) j

abbrev pub address_read : View → Reading AddressParameter
address_read v = address_concluded (address_judged v)
