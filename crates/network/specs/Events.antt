-- What happens in a network before and after a rekey: turns, and node calls.
use Rattle.std.specs.Prelude.{ℕ, ◌<◌, ◌≡◌, length, Ok, Err}
use mathlib.Core.List.{List, [], ◌∷◌, Memᴰ}
use Rattle.refusal.specs.declared.Refusal.{Refusal}
use Rattle.link_key.specs.declared.Key.{Key}
use Rattle.node_laws.specs.Calls.{NodeCall, starting, polling, delivering, asking, sending, receiving, reporting, perform}
use Rattle.node.specs.Frames.{send}
use Rattle.node_key_sets.specs.declared.frames.KeyAnswer.{KeyAnswer}
use Rattle.node.specs.declared.node.Node.{Node}
use Rattle.network.specs.Network.{Network, node_at, with_node}
use Rattle.network_turn.specs.Turn.{turn}
use Rattle.network_turn.specs.declared.answer.TurnResult.{TurnResult}

pub data Event : Type 0 where
  -- a turn: the first node is asked to send the frame type, the second receives it
  turning : ℕ → ℕ → ℕ → Event
  -- a call at a node
  calling : ℕ → NodeCall → Event

-- ---- what events do
-- both nodes of a turn are as it left them
abbrev pub with_turned : Network → ℕ → ℕ → TurnResult → Network
with_turned net i j t = with_node (with_node net i t.sender) j t.receiver

unfoldable pub step : Network → Event → Network
step net (turning i j type) = with_turned net i j (turn (node_at net i) (node_at net j) type)
step net (calling i c) = with_node net i (perform c (node_at net i)).node

-- each event gets the nodes as what came before left them
unfoldable pub run : Network → List Event → Network
run net [] = net
run net (e ∷ es) = run (step net e) es

-- ---- which events there are
pub record Refuses (n : Node) (c : NodeCall) : Type 0 where
  pub why : Refusal
  pub refused : (perform c n).verdict ≡ Err why

-- starts and polls, refused or not, and updates and join answers that are refused
abbrev pub Permitted : Node → NodeCall → Type 0
Permitted n (starting time timeout d) = Unit {0}
Permitted n (polling time) = Unit {0}
Permitted n (delivering delivery time payload) = Refuses n (delivering delivery time payload)
Permitted n (asking time) = ⊥
Permitted n (sending type) = ⊥
Permitted n (receiving type identifier) = ⊥
Permitted n (reporting type identifier) = ⊥

-- turns of any two nodes with whatever frame type, and those calls at any node
unfoldable pub AdmissibleEvent : Network → Event → Type 0
AdmissibleEvent net (turning i j type) = (i < length net) × (j < length net) × (i ≡ j → ⊥)
AdmissibleEvent net (calling i c) = (i < length net) × Permitted (node_at net i) c

-- a list of such events
unfoldable pub Admissible : Network → List Event → Type 0
Admissible net [] = Unit {0}
Admissible net (e ∷ es) = AdmissibleEvent net e × Admissible (step net e) es

-- at every moment of a list of events, its start and its end included
unfoldable pub Throughout : (Network → Type 0) → Network → List Event → Type 0
Throughout P net [] = P net
Throughout P net (e ∷ es) = P net × Throughout P (step net e) es

-- ---- sending under a set
-- what the nodes that were asked to send in a list of events answered
unfoldable pub answers : Network → List Event → List KeyAnswer
answers net [] = []
answers net (turning i j type ∷ es) = send (node_at net i) type ∷ answers (step net (turning i j type)) es
answers net (calling i c ∷ es) = answers (step net (calling i c)) es

-- asked to send, the node answered with a key of the set
pub record Under (ks : List Key) (a : KeyAnswer) : Type 0 where
  pub accepted : a.verdict ≡ Ok tt
  pub member : Memᴰ a.key ks
