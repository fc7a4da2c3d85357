-- The struct's length and the node come first; then the type, and the first key that serves.
use native.Mathlib.Omega.{arith}
use Rattle.image.proofs.Lent.{long}
use Rattle.lemmas.specs.logic.Tests.{is_false, is_true}
use Rattle.node_image.specs.Node.{node_image}
use Rattle.capi_node.proofs.Ranged.{image-so}
use Rattle.capi_node.proofs.Sending.{none-found, send-unfit, send-none, send-type, send-silent, send-key}
use Rattle.capi_node.proofs.frames.send_in.Goals as goal

pub returns-then-key-ne33 : goal.returns-then-key-ne33
returns-then-key-ne33 c =
    send-unfit c.args.node.now c.args.frame_type c.args.key.now c.if-key-ne33.true

pub returns-then-not-is_valid_node : goal.returns-then-not-is_valid_node
returns-then-not-is_valid_node c =
    send-none c.args.node.now c.args.frame_type c.args.key.now (omega (arith, c.if-key-ne33.false))
    c.clear.ensures (is_false c.is_valid_node.ensures c.if-not-is_valid_node.true)

pub returns-then-frame_type-gt1 : goal.returns-then-frame_type-gt1
returns-then-frame_type-gt1 c =
    send-type c.args.node.now c.args.frame_type c.args.key.now (omega (arith, c.if-key-ne33.false))
    c.clear-then-frame_type-gt1.ensures (is_true c.is_valid_node.ensures c.if-not-is_valid_node.false) c.if-frame_type-gt1.true

pub serving_in-requires : goal.serving_in-requires
serving_in-requires c =
    long node_image c.args.node.now
    (image-so c.args.node.now (is_true c.is_valid_node.ensures c.if-not-is_valid_node.false))

pub returns-in_default : goal.returns-in_default
returns-in_default c =
    send-silent c.args.node.now c.args.frame_type c.args.key.now (omega (arith, c.if-key-ne33.false))
    c.clear-in_default.ensures (is_true c.is_valid_node.ensures c.if-not-is_valid_node.false) c.if-frame_type-gt1.false
    (none-found _ c.serving_in.result c.serving_in.ensures.slot c.in_default.not-Some)

pub take_counter_in-requires : goal.take_counter_in-requires
take_counter_in-requires c =
    record {
      node_value = image-so c.args.node.now (is_true c.is_valid_node.ensures c.if-not-is_valid_node.false);
      index_bound = (c.in-Some.ensures.low, omega (arith, c.if-key-ne33.false));
    }

pub returns : goal.returns
returns c =
    send-key c.args.node.now c.args.frame_type c.args.key.now (omega (arith, c.if-key-ne33.false))
    (is_true c.is_valid_node.ensures c.if-not-is_valid_node.false) c.if-frame_type-gt1.false _
    c.in-Some.ensures.slot c.in-Some.ensures.low c.take_counter_in.ensures.node
    c.take_counter_in.ensures.key
