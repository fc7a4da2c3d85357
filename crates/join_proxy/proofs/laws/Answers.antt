-- Over what the cipher promises of sealing and opening.
use Rattle.join_proxy.proofs.AllLaws.{proxy-laws}
use Rattle.join_proxy.proofs.laws.Goals as goal

pub returns : goal.returns
returns c = proxy-laws c.laws.ensures
