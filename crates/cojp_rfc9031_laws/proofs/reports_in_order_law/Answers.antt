-- Label by label: proofs/InOrder.antt.
use Rattle.cojp_rfc9031_laws.proofs.InOrder.{met-in-order}
use Rattle.cojp_rfc9031_laws.proofs.reports_in_order_law.Goals as goal

pub returns : goal.returns
returns c = met-in-order
