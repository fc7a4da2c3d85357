-- Computed.
use Rattle.cojp_laws.proofs.ReadersInOrder.{samples}
use Rattle.cojp_laws.proofs.readers.reading_order_example.Goals as goal

pub returns : goal.returns
returns c = samples
