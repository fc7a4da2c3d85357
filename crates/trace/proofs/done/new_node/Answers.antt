-- As `Node::new` answers.
use Rattle.trace.specs.Calls.{call_of}
use Rattle.trace.proofs.done.new_node.Goals as goal

pub returns : goal.returns
unfolding call_of
returns c = rw c.new-made.ensures
