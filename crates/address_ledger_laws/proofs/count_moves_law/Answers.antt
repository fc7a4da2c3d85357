-- By the definitions of the calls.
use Rattle.address_ledger_laws.proofs.Kept.{moves}
use Rattle.address_ledger_laws.proofs.count_moves_law.Goals as goal

pub returns : goal.returns
returns c = moves
