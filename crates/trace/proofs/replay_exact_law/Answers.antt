-- proofs/Whole.antt has it, by what a refusal's number is and by when a node waits.
use Rattle.trace.proofs.Whole.{whole}
use Rattle.trace.proofs.replay_exact_law.Goals as goal

pub returns : goal.returns
returns c = whole c.number_range_law.ensures c.waiting_law.ensures
