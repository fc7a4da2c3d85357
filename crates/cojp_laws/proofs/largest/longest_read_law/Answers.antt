-- The definitions compute to it.
use Rattle.cojp_laws.proofs.Computed.{longest-read}
use Rattle.cojp_laws.proofs.largest.longest_read_law.Goals as goal

pub returns : goal.returns
returns c = longest-read
