-- Eight keys of 20 bytes, and everything else at its longest.
use Rattle.cojp_laws.proofs.Computed.{largest-attained}
use Rattle.cojp_laws.proofs.largest.largest_attained_law.Goals as goal

pub returns : goal.returns
returns c = largest-attained
