-- No place counts from FFFE on, so nothing is found.
use Rattle.address_ledger_laws.proofs.OnlyAddresses.{two-alone}
use Rattle.address_ledger_laws.proofs.reserved_range_law.Goals as goal

pub returns : goal.returns
returns c = two-alone c.laws.ensures
