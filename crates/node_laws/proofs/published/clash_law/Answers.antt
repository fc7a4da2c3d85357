-- By the node's form and whether the set clashes: proofs/Fitted.antt.
use Rattle.node_laws.proofs.Fitted.{clash-leaves-rest}
use Rattle.node_laws.proofs.published.clash_law.Goals as goal

pub returns : goal.returns
returns c = clash-leaves-rest
