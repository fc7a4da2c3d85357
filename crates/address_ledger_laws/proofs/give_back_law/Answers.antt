-- At every moment the holdings by the history are those that the places show.
use Rattle.address_ledger_laws.proofs.Histories.{gives-own}
use Rattle.address_ledger_laws.proofs.give_back_law.Goals as goal

pub returns : goal.returns
returns c = gives-own
