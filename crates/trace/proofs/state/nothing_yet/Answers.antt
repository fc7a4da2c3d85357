-- The node is the one that `Node::new` makes of role 0 and no identifier: the empty one.
use Rattle.node.specs.Node.{made}
use Rattle.trace.proofs.state.nothing_yet.Goals as goal

pub returns : goal.returns
unfolding made
returns c = rw (c.new-made.ensures, c.absent_octets.ensures)
