-- The poll on the image is the node's own, and RANGE where there is no image.
use Rattle.node_calls.proofs.Nodes.{polled}
use Rattle.node_calls.proofs.attempt.node_poll.Goals as goal

pub returns : goal.returns
returns c =
    polled c.demand1.ensures c.args.node.now c.args.time c.poll_in-step.result
    c.poll_in-step.ensures.due c.verdict_of.ensures c.due_code.ensures c.number_of.ensures
    c.poll_in-step.ensures.node
