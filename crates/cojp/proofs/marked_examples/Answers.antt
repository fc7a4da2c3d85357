-- The definitions compute to what document 01 says.
use Rattle.cojp.proofs.Examples.{marked}
use Rattle.cojp.proofs.marked_examples.Goals as goal

pub returns : goal.returns
returns c = marked
