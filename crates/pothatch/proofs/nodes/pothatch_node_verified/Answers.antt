-- The call by the code and the identifier that were found.
use Rattle.pothatch.proofs.Wides.{verified-as}
use Rattle.pothatch.proofs.nodes.pothatch_node_verified.Goals as goal

pub returns : goal.returns
returns c =
    verified-as c.code_of.ensures c.identifier_of.ensures c.node_verified.ensures
