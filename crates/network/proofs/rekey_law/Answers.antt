-- Demand 3 is the claim with sleepers, which `partial_rekey_law` ensures, where every ordinary node had the set.
use Rattle.network.proofs.Rekey.{demand3}
use Rattle.network.proofs.rekey_law.Goals as goal

pub returns : goal.returns
returns c = demand3 c.partial_rekey_law.ensures
