-- A board that the history lists holds the lowest place with its bytes.
use Rattle.address_ledger_laws.proofs.Histories.{same-again}
use Rattle.address_ledger_laws.proofs.same_address_law.Goals as goal

pub returns : goal.returns
returns c = same-again
