-- The last test of each plan is whether its payload has at most 256 bytes.
use Rattle.cojp_laws.proofs.Sizes.{payloads-fit}
use Rattle.cojp_laws.proofs.largest.payload_size_law.Goals as goal

pub returns : goal.returns
returns c = payloads-fit
