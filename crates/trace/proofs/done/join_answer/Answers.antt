-- As `Node::join_answer` answers.
use Rattle.trace.specs.Calls.{call_of}
use Rattle.trace.proofs.done.join_answer.Goals as goal

pub returns : goal.returns
unfolding call_of
returns c = rw (c.delivered.ensures, c.join_answer.ensures)
