-- The place of a freed address is free.
use Rattle.address_ledger_laws.proofs.Again.{freed-again}
use Rattle.address_ledger_laws.proofs.freed_address_law.Goals as goal

pub returns : goal.returns
returns c = freed-again
