-- The definitions compute to what document 01 says.
use Rattle.cojp_laws.proofs.Computed.{written-examples}
use Rattle.cojp_laws.proofs.writers.written_examples.Goals as goal

pub returns : goal.returns
returns c = written-examples
