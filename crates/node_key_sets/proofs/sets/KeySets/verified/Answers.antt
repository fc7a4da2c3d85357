-- `verified` meets its contract: refused as receiving is, and then by whether an active key has the identifier.
use Rattle.node_key_sets.proofs.Answers.{from-held, report-kept, report-refused, report-switched}
use Rattle.std.proofs.lemmas.Result.{err_from_is_err_and}
use Rattle.lemmas.specs.logic.Tests.{is_false, is_true}
use Rattle.node_key_sets.proofs.sets.KeySets.verified.Goals as goal

pub returns-then-has : goal.returns-then-has
returns-then-has c =
    let answered = from-held c.args.self c.args.frame_type c.args.identifier _ c.held_key.ensures _ c.received.ensures in
    report-kept c.args.self c.args.frame_type c.args.identifier _ answered c.in_ok-received.was
    (is_true c.has.ensures c.if-has.true)

pub returns-in_err-received : goal.returns-in_err-received
returns-in_err-received c =
    let answered = from-held c.args.self c.args.frame_type c.args.identifier _ c.held_key.ensures _ c.received.ensures in
    let p = err_from_is_err_and c.from_residual.result c.from_residual.ensures.1 in
    rw (p.1, p.2) (report-refused c.args.self c.args.frame_type c.args.identifier _ answered _ c.in_err-received.was)

pub returns-else-has : goal.returns-else-has
returns-else-has c =
    let answered = from-held c.args.self c.args.frame_type c.args.identifier _ c.held_key.ensures _ c.received.ensures in
    report-switched c.args.self c.args.frame_type c.args.identifier _ answered c.in_ok-received.was
    (is_false c.has.ensures c.if-has.false)
