-- Each place that is written moves the true count and the kept one alike.
use Rattle.address_ledger_laws.proofs.Kept.{right-stays}
use Rattle.address_ledger_laws.proofs.count_stays_law.Goals as goal

pub returns : goal.returns
returns c = right-stays
