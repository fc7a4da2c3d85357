-- The law of the numbers.
use Rattle.short_address.proofs.Addresses.{address-laws}
use Rattle.short_address.proofs.laws.Goals as goal

pub returns : goal.returns
returns c = address-laws
