-- The claim follows from the node's laws, which `node_laws::laws` ensures.
use Rattle.network.proofs.Rekey.{amid-updates}
use Rattle.network.proofs.rekey_amid_updates_law.Goals as goal

pub returns : goal.returns
returns c = amid-updates c.laws.ensures
