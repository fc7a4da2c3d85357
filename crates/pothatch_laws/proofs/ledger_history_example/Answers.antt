-- The shift is computed in `LedgerShift`.
use Rattle.pothatch_laws.proofs.LedgerShift.{shift-played}
use Rattle.pothatch_laws.proofs.ledger_history_example.Goals as goal

pub returns : goal.returns
returns c = shift-played
