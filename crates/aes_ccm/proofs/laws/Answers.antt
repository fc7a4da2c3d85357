-- Over what the cipher promises of its blocks.
use Rattle.aes_ccm.proofs.Opening.{ccm-laws}
use Rattle.aes_ccm.proofs.laws.Goals as goal

pub returns : goal.returns
returns c = ccm-laws c.laws.ensures
