-- The call by the code and the identifier that were found.
use Rattle.pothatch.proofs.Wides.{receive-as}
use Rattle.pothatch.proofs.nodes.pothatch_node_receive.Goals as goal

pub returns : goal.returns
returns c =
    receive-as c.args.node.now c.code_of.ensures c.identifier_of.ensures
    c.node_receive.ensures
