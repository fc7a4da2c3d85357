-- As `Node::update` answers.
use Rattle.trace.specs.Calls.{call_of}
use Rattle.trace.proofs.done.update.Goals as goal

pub returns : goal.returns
unfolding call_of
returns c = rw (c.delivered.ensures, c.update.ensures)
