-- What a call may change of a node: a start and a poll the join attempt alone, a send the counters of the active set alone. So the other
-- bytes of an image are already right.
use Rattle.std.specs.Prelude.{ℕ, List, ◌≡◌}
use Rattle.link_key_counters.specs.Counters.{counted_set}
use Rattle.node.specs.Frames.{sending}
use Rattle.node.specs.Node.{attempting, keyed}
use Rattle.node.specs.Timing.{start, poll}
use Rattle.node.specs.declared.node.Node.{Node}
use Rattle.node_key_sets.specs.Sets.{two_sets}

-- the node with other counters of its active set
abbrev pub recounted : Node → List ℕ → Node
recounted n counters = keyed n (two_sets (counted_set n.sets.active.set counters) n.sets.pending)

-- m is n but for its join attempt
abbrev pub Attempted : Node → Node → Type 0
Attempted n m = m ≡ attempting n m.attempt

-- m is n but for the counters of its active set
abbrev pub Recounted : Node → Node → Type 0
Recounted n m = m ≡ recounted n m.sets.active.counters

pub record NodeChanges : Type 0 where
  pub started : (n : Node) (time timeout : ℕ) (d : List ℕ) → Attempted n (start n time timeout d).node
  pub polled : (n : Node) (time : ℕ) → Attempted n (poll n time).node
  pub sent : (n : Node) (type : ℕ) → Recounted n (sending n type).node
