-- From what is promised of lists that are kept: proofs/ListedAs.antt.
use Rattle.cojp_rfc9031_laws.proofs.ListedAs.{listed-as}
use Rattle.cojp_rfc9031_laws.proofs.listed_as_law.Goals as goal

pub returns : goal.returns
returns c = listed-as c.laws.ensures
