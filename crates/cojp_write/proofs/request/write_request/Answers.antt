-- RANGE, then what is in range.
use mathlib.Core.Path.{sym, ◌∙◌}
use Rattle.cojp_write.proofs.octets.Limits.{request-fits}
use Rattle.cojp_write.proofs.request.Plans.{request-range, request-emit}
use Rattle.cojp_write.proofs.request.write_request.Goals as goal

pub returns-then-not-request_in_range : goal.returns-then-not-request_in_range
returns-then-not-request_in_range c =
    request-range c.args.version c.args.q _ (sym c.request_in_range.ensures ∙ c.if-not-request_in_range.true)

pub emit_request-requires : goal.emit_request-requires
emit_request-requires c =
    request-fits c.args.version c.args.q (sym c.request_in_range.ensures ∙ c.if-not-request_in_range.false)

pub returns : goal.returns
returns c =
    request-emit c.args.version c.args.q (sym c.request_in_range.ensures ∙ c.if-not-request_in_range.false) c.is_owing-owed.ensures
    c.emit_request.ensures
