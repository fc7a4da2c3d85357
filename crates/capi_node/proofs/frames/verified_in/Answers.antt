-- The node is judged first; then the report is the key sets' own, and only a switch changes the image.
use Rattle.std.proofs.Common.{refl, arith, ap}
use Rattle.std.specs.Prelude.{Ok}
use Rattle.std.proofs.lemmas.Result.{err_from_is_err_and}
use Rattle.node_key_sets.specs.Frames.{has_switched}
use Rattle.node_key_sets.specs.declared.frames.Change.{Change}
use Rattle.image.proofs.Lent.{long}
use Rattle.lemmas.specs.logic.Tests.{is_false, is_true}
use Rattle.node_image.specs.Node.{node_image}
use Rattle.capi_node.proofs.Ranged.{image-so}
use Rattle.capi_node.proofs.Sending.{verified-none, verified-change, verified-switched, verified-kept, not-switched}
use Rattle.capi_node.proofs.frames.verified_in.Goals as goal

pub returns-then-not-is_valid_node-clause-change : goal.returns-then-not-is_valid_node-clause-change
returns-then-not-is_valid_node-clause-change c =
    verified-none c.args.node.now c.args.frame_type c.args.identifier (is_false c.is_valid_node.ensures c.if-not-is_valid_node.true)

pub change_in-requires : goal.change_in-requires
change_in-requires c =
    long node_image c.args.node.now (image-so c.args.node.now (is_true c.is_valid_node.ensures c.if-not-is_valid_node.false))

pub returns-in_err-change-clause-change : goal.returns-in_err-change-clause-change
returns-in_err-change-clause-change c =
    let valid = is_true c.is_valid_node.ensures c.if-not-is_valid_node.false in
    let p = err_from_is_err_and c.from_residual.result c.from_residual.ensures.1 in
    rw (p.1, p.2) (verified-change c.args.node.now c.args.frame_type c.args.identifier valid _ c.in_err-change.ensures)

pub returns-in_err-change-clause-node : goal.returns-in_err-change-clause-node
returns-in_err-change-clause-node c =
    let p = err_from_is_err_and c.from_residual.result c.from_residual.ensures.1 in rw p.1 refl

pub switch_in-requires : goal.switch_in-requires
switch_in-requires c =
    image-so c.args.node.now (is_true c.is_valid_node.ensures c.if-not-is_valid_node.false)

pub returns-in-Switched-clause-change : goal.returns-in-Switched-clause-change
returns-in-Switched-clause-change c =
    let valid = is_true c.is_valid_node.ensures c.if-not-is_valid_node.false in
    verified-change c.args.node.now c.args.frame_type c.args.identifier valid _ c.in_ok-change.ensures

pub returns-in-Switched-clause-node : goal.returns-in-Switched-clause-node
returns-in-Switched-clause-node c =
    let valid = is_true c.is_valid_node.ensures c.if-not-is_valid_node.false in
    verified-switched c.args.node.now c.args.frame_type c.args.identifier valid _ c.in_ok-change.ensures
    (ap (λ (x : Change). has_switched (Ok x)) c.in-Switched.is) c.switch_in.ensures

pub returns-in_default-clause-change : goal.returns-in_default-clause-change
returns-in_default-clause-change c =
    let valid = is_true c.is_valid_node.ensures c.if-not-is_valid_node.false in
    verified-change c.args.node.now c.args.frame_type c.args.identifier valid _ c.in_ok-change.ensures

pub returns-in_default-clause-node : goal.returns-in_default-clause-node
returns-in_default-clause-node c =
    let valid = is_true c.is_valid_node.ensures c.if-not-is_valid_node.false in
    verified-kept c.args.node.now c.args.frame_type c.args.identifier valid _ c.in_ok-change.ensures
    c.laws.ensures.node (λ i. omega (arith, c.slice_known-1.given i)) (not-switched _ c.in_default.not-Switched)
