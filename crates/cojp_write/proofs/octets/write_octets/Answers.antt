-- RANGE, then the pair.
use mathlib.Core.Path.{sym, ◌∙◌}
use Rattle.cojp_write.proofs.octets.Plans.{string-range, string-emit}
use Rattle.cojp_write.proofs.octets.write_octets.Goals as goal

pub returns-then-string_in_range : goal.returns-then-string_in_range
returns-then-string_in_range c =
    string-emit c.args.label c.args.p (sym c.string_in_range.ensures ∙ c.if-string_in_range.true) c.emit_octets.ensures

pub returns : goal.returns
returns c =
    string-range c.args.label c.args.p _ (sym c.string_in_range.ensures ∙ c.if-string_in_range.false)
