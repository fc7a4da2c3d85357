-- `laws` meets its contract: the laws stand in their file.
use Rattle.link_key_counters.proofs.Counted.{counter-laws}
use Rattle.link_key_counters.proofs.laws.Goals as goal

pub returns : goal.returns
returns c = counter-laws
