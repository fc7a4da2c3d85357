-- Each call does to the image what the node's own call does to the node, and every call leaves a node that has an image.
use Rattle.pothatch_laws.proofs.Nodes.{node-runs}
use Rattle.pothatch_laws.proofs.node_runs_law.Goals as goal

pub returns : goal.returns
returns c = node-runs c.demand1.ensures c.calls_valid_law.ensures c.laws.ensures.node
