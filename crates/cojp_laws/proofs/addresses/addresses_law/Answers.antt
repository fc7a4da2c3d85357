-- From what is promised of addresses and of the readers: proofs/Reserved.antt.
use Rattle.cojp_laws.proofs.Reserved.{object-addresses}
use Rattle.cojp_laws.proofs.addresses.addresses_law.Goals as goal

pub returns : goal.returns
returns c =
    object-addresses c.laws.ensures c.reads_in_range_law.ensures c.readers_demand1_law.ensures
    c.strict_readers_law.ensures
