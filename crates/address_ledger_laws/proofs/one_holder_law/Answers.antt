-- At every moment the holdings by the history are those that the places show.
use Rattle.address_ledger_laws.proofs.Histories.{no-two-boards}
use Rattle.address_ledger_laws.proofs.one_holder_law.Goals as goal

pub returns : goal.returns
returns c = no-two-boards
