-- What is sent on the image is what the node sends.
use Rattle.node_calls.proofs.Nodes.{sent}
use Rattle.node_calls.proofs.frames.node_send.Goals as goal

pub returns : goal.returns
returns c =
    sent c.args.frame_type c.args.node.now c.args.key.now c.send_in.ensures
