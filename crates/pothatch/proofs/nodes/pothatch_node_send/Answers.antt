-- The call by the code that was found.
use Rattle.pothatch.proofs.Wides.{send-as}
use Rattle.pothatch.proofs.nodes.pothatch_node_send.Goals as goal

pub returns : goal.returns
returns c =
    send-as c.code_of.ensures c.node_send.ensures
