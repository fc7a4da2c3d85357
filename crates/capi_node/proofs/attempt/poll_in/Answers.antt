-- The node is judged first; then the poll is its join attempt's own.
use mathlib.Core.Path.{refl}
use native.Mathlib.Omega.{arith}
use Rattle.image.proofs.Lent.{long}
use Rattle.lemmas.specs.logic.Tests.{is_false, is_true}
use Rattle.node_image.specs.Node.{node_image}
use Rattle.capi_node.proofs.Ranged.{image-so, poll-none, poll-due, poll-node}
use Rattle.capi_node.proofs.attempt.poll_in.Goals as goal

pub returns-then-not-is_valid_node : goal.returns-then-not-is_valid_node
returns-then-not-is_valid_node c =
    record {
      due = poll-none c.args.node.now c.args.time (is_false c.is_valid_node.ensures c.if-not-is_valid_node.true);
      node = refl;
    }

pub attempt_at-requires : goal.attempt_at-requires
attempt_at-requires c =
    omega (
      arith,
      long node_image c.args.node.now
          (image-so c.args.node.now (is_true c.is_valid_node.ensures c.if-not-is_valid_node.false)),
    )

pub store_attempt-requires : goal.store_attempt-requires
store_attempt-requires c =
    image-so c.args.node.now (is_true c.is_valid_node.ensures c.if-not-is_valid_node.false)

pub returns : goal.returns
returns c =
    let valid = is_true c.is_valid_node.ensures c.if-not-is_valid_node.false in record {
      due = poll-due c.args.node.now c.args.time valid c.poll-polled.result c.attempt_at.result
          c.attempt_at.ensures c.poll-polled.ensures;
      node = poll-node c.args.node.now c.args.time valid c.poll-polled.result c.attempt_at.result
          c.attempt_at.ensures c.poll-polled.ensures c.verdict_of.ensures
          c.store_attempt.ensures;
    }
