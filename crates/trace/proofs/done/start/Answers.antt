-- As `Node::start` answers, lent 32 zeros.
use Rattle.trace.specs.Calls.{call_of}
use Rattle.trace.proofs.done.start.Goals as goal

pub returns : goal.returns
unfolding call_of
returns c = rw c.start-started.ensures.says
