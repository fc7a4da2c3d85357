-- Computed.
use Rattle.pothatch.proofs.Empties.{emptied-is-empty}
use Rattle.pothatch.proofs.emptied_is_empty_law.Goals as goal

pub returns : goal.returns
returns c = emptied-is-empty
