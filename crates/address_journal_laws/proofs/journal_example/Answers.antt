-- By computing.
use Rattle.address_journal_laws.proofs.Examples.{example}
use Rattle.address_journal_laws.proofs.journal_example.Goals as goal

pub returns : goal.returns
returns c = example
