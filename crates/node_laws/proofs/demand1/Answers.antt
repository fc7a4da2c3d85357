-- Demand 1 holds: proofs/Untouched.antt goes through the calls.
use Rattle.node_laws.proofs.Untouched.{node-demand1}
use Rattle.node_laws.proofs.demand1.Goals as goal

pub returns : goal.returns
returns c = node-demand1
