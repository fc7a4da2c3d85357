-- The source's list is the proofs' list, whose rule was computed.
use Rattle.aes.proofs.Entries.{list, substitutes}
use Rattle.aes.proofs.tables.substitution.Goals as goal

pub returns : goal.returns
unfolding list
returns c = substitutes
