-- Value by value, and then pair by pair: proofs/GoodValues.antt.
use Rattle.cojp_rfc9031_laws.proofs.GoodValues.{good-values}
use Rattle.cojp_rfc9031_laws.proofs.good_values_law.Goals as goal

pub returns : goal.returns
returns c = good-values c.laws.ensures c.head_laws.ensures
