-- Each call's answer is made of the node with that part alone another.
use Rattle.node_image.proofs.Renewed.{node-changes}
use Rattle.node_image.proofs.partial_store_law.Goals as goal

pub returns : goal.returns
returns c = node-changes
