-- The report is refused as receiving is; else it is told by whether the key is active.
use Rattle.std.proofs.Common.{drop, sym, ◌∙◌}
use Rattle.std.proofs.lemmas.Result.{err_from_is_err_and}
use Rattle.node_image.specs.Node.{sets_part}
use Rattle.capi_node.proofs.Switching.{report-refused, report-kept, report-switched}
use Rattle.capi_node.proofs.switch.change_in.Goals as goal

pub returns-in_err-receiving_key_in : goal.returns-in_err-receiving_key_in
returns-in_err-receiving_key_in c =
    let p = err_from_is_err_and c.from_residual.result c.from_residual.ensures.1 in
    rw (p.1, p.2) (report-refused c.laws.ensures (sets_part.get (drop 29 c.args.s.now)) c.args.frame_type
    c.args.identifier c.receiving_key_in.ensures _ c.in_err-receiving_key_in.was)

pub returns-then-is_some : goal.returns-then-is_some
returns-then-is_some c =
    report-kept c.laws.ensures (sets_part.get (drop 29 c.args.s.now)) c.args.frame_type
    c.args.identifier c.receiving_key_in.ensures c.in_ok-receiving_key_in.was c.find_at.ensures (sym c.is_some.ensures ∙ c.if-is_some.true)

pub returns : goal.returns
returns c =
    report-switched c.laws.ensures (sets_part.get (drop 29 c.args.s.now)) c.args.frame_type
    c.args.identifier c.receiving_key_in.ensures c.in_ok-receiving_key_in.was c.find_at.ensures (sym c.is_some.ensures ∙ c.if-is_some.false)
