-- Each call does to the image what the ledger's own call does to the ledger, and images are loaded as they were stored.
use Rattle.pothatch_laws.proofs.Ledgers.{ledger-runs}
use Rattle.pothatch_laws.proofs.ledger_runs_law.Goals as goal

pub returns : goal.returns
returns c = ledger-runs c.demand1.ensures c.laws.ensures.ledger
