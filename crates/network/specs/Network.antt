-- A network: any finite number of nodes. A node is named by its place in the list.
use Rattle.std.specs.Prelude.{ℕ, List, get_or, set}
use Rattle.node.specs.Node.{empty_node}
use Rattle.node.specs.declared.node.Node.{Node}

abbrev pub Network : Type 0
Network = List Node

-- the node at a place of the list
unfoldable pub node_at : Network → ℕ → Node
node_at net i = get_or net i empty_node

-- the network with another node at that place
unfoldable pub with_node : Network → ℕ → Node → Network
with_node net i n = set net i n
