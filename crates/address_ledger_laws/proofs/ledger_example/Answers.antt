-- Computed.
use Rattle.address_ledger_laws.proofs.Played.{played}
use Rattle.address_ledger_laws.proofs.ledger_example.Goals as goal

pub returns : goal.returns
returns c = played
