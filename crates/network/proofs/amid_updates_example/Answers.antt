-- The claim that `rekey_amid_updates_law` ensures is applied to the line.
use Rattle.network.proofs.AmidUpdatesRun.{amid-witness}
use Rattle.network.proofs.amid_updates_example.Goals as goal

pub returns : goal.returns
returns c = amid-witness c.rekey_amid_updates_law.ensures
