-- What stands in the bytes of a place is what the list of places has there.
use Rattle.address_ledger_laws.proofs.Contents.{any_memory}
use Rattle.address_ledger_laws.proofs.lowest_slot_law.Goals as goal

pub returns : goal.returns
returns c = any_memory
