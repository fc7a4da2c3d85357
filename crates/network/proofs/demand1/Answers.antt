-- Demand 1 for a turn follows from the node's laws, which `node_laws::laws` ensures.
use Rattle.network.proofs.Untouched.{turn-demand1}
use Rattle.network.proofs.demand1.Goals as goal

pub returns : goal.returns
returns c = turn-demand1 c.laws.ensures
