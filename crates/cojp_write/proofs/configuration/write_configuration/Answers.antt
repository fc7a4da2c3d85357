-- RANGE, then what is in range.
use mathlib.Core.Path.{sym, ◌∙◌}
use Rattle.cojp_write.proofs.octets.Limits.{writing-fits}
use Rattle.cojp_write.proofs.configuration.Plans.{configuration-range, configuration-emit}
use Rattle.cojp_write.proofs.configuration.write_configuration.Goals as goal

pub returns-then-not-configuration_in_range : goal.returns-then-not-configuration_in_range
returns-then-not-configuration_in_range c =
    configuration-range c.args.version c.args.c _ (sym c.configuration_in_range.ensures ∙ c.if-not-configuration_in_range.true)

pub emit_configuration-requires : goal.emit_configuration-requires
emit_configuration-requires c =
    writing-fits c.args.version c.args.c (sym c.configuration_in_range.ensures ∙ c.if-not-configuration_in_range.false)

pub returns : goal.returns
returns c =
    configuration-emit c.args.version c.args.c (sym c.configuration_in_range.ensures ∙ c.if-not-configuration_in_range.false)
    c.emit_configuration.ensures
