-- The same objects do the same: proofs/Alike.antt goes through the parameters, by the laws of counted sets.
use Rattle.node_laws.proofs.Alike.{applies-alike}
use Rattle.node_laws.proofs.applies_alike_law.Goals as goal

pub returns : goal.returns
returns c = applies-alike c.laws.ensures
