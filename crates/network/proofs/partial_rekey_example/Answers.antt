-- The claim with sleepers, which `partial_rekey_law` ensures, is applied to the building.
use Rattle.network.proofs.PartialRekeyRun.{building-witness}
use Rattle.network.proofs.partial_rekey_example.Goals as goal

pub returns : goal.returns
returns c = building-witness c.partial_rekey_law.ensures
