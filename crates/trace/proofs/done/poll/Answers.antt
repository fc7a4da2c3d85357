-- As `Node::poll` answers.
use Rattle.trace.specs.Calls.{call_of}
use Rattle.trace.proofs.done.poll.Goals as goal

pub returns : goal.returns
unfolding call_of
returns c = rw (c.verdict_of.ensures, c.poll-polled.ensures)
