-- Pair by pair: proofs/PassedOver.antt.
use Rattle.cojp_rfc9031_laws.proofs.PassedOver.{passed_over}
use Rattle.cojp_rfc9031_laws.proofs.unknown_count_law.Goals as goal

pub returns : goal.returns
returns c = passed_over
