-- A shift in C is a history of the ledger, of which its laws speak.
use Rattle.pothatch_laws.proofs.LedgerHistories.{ledger-histories}
use Rattle.pothatch_laws.proofs.ledger_histories_law.Goals as goal

pub returns : goal.returns
returns c =
    ledger-histories c.demand1.ensures c.held_and_free_law.ensures c.one_holder_law.ensures c.same_address_law.ensures
