-- The place's count is stored, one more.
use Rattle.trace.specs.Step.{raised}
use Rattle.trace.proofs.count.raise.Goals as goal

pub returns : goal.returns
unfolding raised
returns c = rw c.more.ensures
