-- The definitions compute to what document 01 says.
use Rattle.cojp.proofs.Examples.{published}
use Rattle.cojp.proofs.published_examples.Goals as goal

pub returns : goal.returns
returns c = published
