-- By the number of the bytes that are left.
use Rattle.cojp.proofs.Nexts.{one_place}
use Rattle.cojp.proofs.end_unique_law.Goals as goal

pub returns : goal.returns
returns c = one_place
