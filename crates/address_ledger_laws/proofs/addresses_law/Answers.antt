-- An address that is answered is that of a place that counts.
use Rattle.address_ledger_laws.proofs.OnlyAddresses.{addresses-alone}
use Rattle.address_ledger_laws.proofs.addresses_law.Goals as goal

pub returns : goal.returns
returns c = addresses-alone c.laws.ensures
