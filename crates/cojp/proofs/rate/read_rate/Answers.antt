-- A number is the rate, and all else is bad.
use mathlib.Core.Path.{◌∙◌}
use Rattle.cojp.proofs.Rates.{rate-number, rate-other}
use Rattle.cojp.proofs.rate.read_rate.Goals as goal

pub returns-in-Number : goal.returns-in-Number
returns-in-Number c =
    rate-number c.args.s.now c.args.at c.value_at.result c.value_at.ensures c.in-Number.number c.in-Number.next c.in-Number.is

pub returns-in_default : goal.returns-in_default
returns-in_default c =
    c.no_rate.ensures ∙ rate-other c.args.s.now c.args.at c.value_at.result c.value_at.ensures
    c.in_default.not-Number
