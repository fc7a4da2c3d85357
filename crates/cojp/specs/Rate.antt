-- Join rates (RFC 9031): an unsigned number of bytes a second.
use Rattle.std.specs.Prelude.{ℕ}
use Rattle.cbor.specs.View.{number, minus, string, other, View, scalar, list}
use Rattle.cojp.specs.declared.rate.RateParameter.{RateParameter}
use Rattle.cojp.specs.declared.disposition.Disposition.{Disposition}
use Rattle.cojp.specs.declared.disposition.Disposition.TheVariants.{Taken, Discarded}

abbrev pub rate_parameter : Disposition → ℕ → RateParameter
rate_parameter r n = record { disposition = r; value = n }

abbrev pub no_rate_parameter : Disposition → RateParameter
no_rate_parameter r = rate_parameter r 0

-- anything else than an unsigned number is bad
unfoldable pub rate_taken : View → RateParameter
rate_taken (scalar (number n)) = rate_parameter Taken n
rate_taken (scalar (minus n)) = no_rate_parameter Discarded
rate_taken (scalar (string s)) = no_rate_parameter Discarded
rate_taken (scalar other) = no_rate_parameter Discarded
rate_taken (list ps) = no_rate_parameter Discarded
