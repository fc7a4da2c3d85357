-- The report on the image is the node's own, and RANGE where there is no image.
use Rattle.node_calls.proofs.Nodes.{reported}
use Rattle.node_calls.proofs.frames.node_verified.Goals as goal

pub returns : goal.returns
returns c =
    reported c.demand1.ensures c.args.node.now c.args.frame_type c.args.identifier
    c.verified_in-what.result c.verified_in-what.ensures.change c.verdict_of.ensures
    c.change_code.ensures c.number_of.ensures c.verified_in-what.ensures.node
