-- As `Node::verified` answers.
use Rattle.trace.specs.Calls.{call_of}
use Rattle.trace.proofs.done.verified.Goals as goal

pub returns : goal.returns
unfolding call_of
returns c = rw (c.verdict_of.ensures, c.has_switched.ensures, c.verified-heard.ensures)
