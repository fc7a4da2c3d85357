-- By induction on the pairs.
use Rattle.cojp_laws.proofs.ReadersInOrder.{in_order}
use Rattle.cojp_laws.proofs.readers.reading_order_law.Goals as goal

pub returns : goal.returns
returns c = in_order
