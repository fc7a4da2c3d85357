-- Each way out that refuses hands back what came in.
use Rattle.address_ledger_laws.proofs.Refusals.{refusals}
use Rattle.address_ledger_laws.proofs.demand1.Goals as goal

pub returns : goal.returns
returns c = refusals
