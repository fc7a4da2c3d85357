-- A node's join rate (RFC 9031).
use Rattle.std.specs.Prelude.{true, false}
use Rattle.cojp.specs.Reading.{if_taken}
use Rattle.cojp.specs.declared.rate.RateParameter.{RateParameter}
use Rattle.node_parameters.specs.declared.rate.HeldRate.{HeldRate}

abbrev pub absent_rate : HeldRate
absent_rate = record { held = false; value = 0 }

-- after a configuration: the one taken, else the old one
abbrev pub rate_after : RateParameter → HeldRate → HeldRate
rate_after p old = if_taken p.disposition (record { held = true; value = p.value }) old
