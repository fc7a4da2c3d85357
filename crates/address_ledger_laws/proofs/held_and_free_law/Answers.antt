-- At every moment the holdings by the history are those that the places show.
use Rattle.address_ledger_laws.proofs.Histories.{held-plus-free}
use Rattle.address_ledger_laws.proofs.held_and_free_law.Goals as goal

pub returns : goal.returns
returns c = held-plus-free
