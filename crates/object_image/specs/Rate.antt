-- A join rate as a parameter, 9 bytes: report 1, rate 8.
use Rattle.std.specs.Prelude.{ℕ}
use Rattle.image.specs.Part.{Part, number, both, viewed}
use Rattle.cojp.specs.declared.rate.RateParameter.{RateParameter}
use Rattle.cojp.specs.declared.disposition.Disposition.{Disposition}
use Rattle.object_image.specs.Codes.{disposition_part}

abbrev pub rate_parameter_to : Disposition × ℕ → RateParameter
rate_parameter_to x = record { disposition = x.0; value = x.1 }

abbrev pub rate_parameter_from : RateParameter → Disposition × ℕ
rate_parameter_from p = (p.disposition, p.value)

abbrev pub rate_parameter_part : Part RateParameter
rate_parameter_part = viewed (both disposition_part (number 8)) rate_parameter_to rate_parameter_from
