-- The struct's length and the node come first; then the key sets decide.
use native.Mathlib.Omega.{arith}
use Rattle.image.proofs.Lent.{long}
use Rattle.lemmas.specs.logic.Tests.{is_false, is_true}
use Rattle.node_image.specs.Node.{node_image}
use Rattle.capi_node.proofs.Ranged.{image-so}
use Rattle.capi_node.proofs.Sending.{receive-unfit, receive-none, receive-key}
use Rattle.capi_node.proofs.frames.receive_in.Goals as goal

pub returns-then-key-ne33 : goal.returns-then-key-ne33
returns-then-key-ne33 c =
    receive-unfit c.args.node.now c.args.frame_type c.args.identifier c.args.key.now c.if-key-ne33.true

pub returns-then-not-is_valid_node : goal.returns-then-not-is_valid_node
returns-then-not-is_valid_node c =
    receive-none c.args.node.now c.args.frame_type c.args.identifier c.args.key.now
    (omega (arith, c.if-key-ne33.false)) (is_false c.is_valid_node.ensures c.if-not-is_valid_node.true) c.clear.ensures

pub receiving_key_in-answer-requires : goal.receiving_key_in-answer-requires
receiving_key_in-answer-requires c =
    long node_image c.args.node.now
    (image-so c.args.node.now (is_true c.is_valid_node.ensures c.if-not-is_valid_node.false))

pub store_key-requires : goal.store_key-requires
store_key-requires c =
    omega (arith, c.if-key-ne33.false)

pub returns : goal.returns
returns c =
    receive-key c.args.node.now c.args.frame_type c.args.identifier c.args.key.now
    (omega (arith, c.if-key-ne33.false)) c.receiving_key_in-answer.result
    (is_true c.is_valid_node.ensures c.if-not-is_valid_node.false) c.receiving_key_in-answer.ensures
    c.store_key.ensures.number c.store_key.ensures.out
