-- Label by label: proofs/InOrder.antt.
use Rattle.cojp_rfc9031_laws.proofs.InOrder.{request-in-order}
use Rattle.cojp_rfc9031_laws.proofs.request_in_order_law.Goals as goal

pub returns : goal.returns
returns c = request-in-order
