-- A refused plan leaves the destination.
use Rattle.cojp_laws.proofs.Demand1.{writers-demand1}
use Rattle.cojp_laws.proofs.writers.writers_demand1.Goals as goal

pub returns : goal.returns
returns c = writers-demand1
