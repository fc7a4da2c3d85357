-- What is received on the image is what the node receives.
use Rattle.node_calls.proofs.Nodes.{received}
use Rattle.node_calls.proofs.frames.node_receive.Goals as goal

pub returns : goal.returns
returns c =
    received c.args.frame_type c.args.identifier c.args.node.now c.args.key.now
    c.receive_in.ensures
