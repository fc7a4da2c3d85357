-- By what holding and freeing a place do to the bytes.
use Rattle.address_ledger_laws.proofs.Stored.{stored}
use Rattle.address_ledger_laws.proofs.bytes_written_law.Goals as goal

pub returns : goal.returns
returns c = stored
