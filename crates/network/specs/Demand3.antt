-- Demand 3: the rekey that strands nobody. Beside each clause stand the words that it is for.
use Rattle.std.specs.Prelude.{ℕ, ◌<◌, ◌≡◌, length}
use mathlib.Core.List.{List, [], ◌++◌, Memᴰ}
use Rattle.link_key.specs.set.KeySet.{Apart, Covers}
use Rattle.link_key.specs.declared.Key.{Key}
use Rattle.node.specs.Node.{active_of, pending_of}
use Rattle.node.specs.Range.{Valid}
use Rattle.node.specs.Delivery.{deliver}
use Rattle.node.specs.Frames.{send}
use Rattle.node_laws.specs.Laws.{Takes, Unspent}
use Rattle.node_attempt.specs.declared.delivery.Delivery.{Delivery}
use Rattle.node_key_sets.specs.declared.frames.KeyAnswer.{KeyAnswer}
use Rattle.node.specs.declared.node.Node.{Node}
use Rattle.network.specs.Network.{Network, node_at, with_node}
use Rattle.network.specs.Events.{Event, run, Admissible, Throughout, answers, Under}
use Rattle.network.specs.Rounds.{Links, Neighbours, Hops, AllLinked, Rounds}

-- what demand 3 supposes at the start, of a network with its border router at that place, the new set and the frame type
pub record Supposed (net : Network) (border : ℕ) (new : List Key) (type : ℕ) : Type 0 where
  -- "any finite number of these nodes, .. none answering RANGE when handed in"
  pub valid : (i : ℕ) → i < length net → Valid (node_at net i)
  -- "one of them border", "the single border router"
  pub inside : border < length net
  pub is-border : (node_at net border).role ≡ 1
  pub ordinary : (i : ℕ) → i < length net → (i ≡ border → ⊥) → (node_at net i).role ≡ 0
  -- "let one new key set, covering one frame type,"
  pub covering : Covers new type
  -- "be pending at every ordinary node"
  pub pending : (i : ℕ) → i < length net → (node_at net i).role ≡ 0 → pending_of (node_at net i) ≡ new
  -- "and active at none"
  pub active-at-none : (i : ℕ) → i < length net → active_of (node_at net i) ≡ new → ⊥
  -- "the single border router's former set shares no key identifier with it"
  pub former-apart : Apart (active_of (node_at net border)) new

-- "the new set's covering keys aren't used up at any node" (02, request 9)
abbrev pub NoneUsedUp : List Key → ℕ → Network → Type 0
NoneUsedUp new type net = (i : ℕ) → i < length net → Unspent new type (node_at net i)

-- "no node sends anything under it,"
pub record NoneSendsUnder (new : List Key) (net : Network) (es : List Event) : Type 0 where
  -- "in the list"
  pub in_list : (a : KeyAnswer) → Memᴰ a (answers net es) → Under new a → ⊥
  -- "or if asked at its end"
  pub at-end : (i type : ℕ) → i < length net → Under new (send (node_at (run net es) i) type) → ⊥

-- a node that followed the rekey
pub record Rekeyed (new : List Key) (type : ℕ) (n : Node) : Type 0 where
  -- "has the new set active,"
  pub active : active_of n ≡ new
  -- "none pending"
  pub none-pending : pending_of n ≡ []
  -- "and no old key,"
  pub no-old-key : (k : Key) → Memᴰ k (active_of n ++ pending_of n) → Memᴰ k new
  -- "and sends that type under the new set"
  pub sends : Under new (send n type)

-- the step between the two lists: the border router is handed an update or a join answer
abbrev pub handed : Network → ℕ → Delivery → ℕ → List ℕ → Network
handed net border delivery time payload = with_node net border (deliver delivery (node_at net border) time payload).node

unfoldable pub Demand3 : Type 0
Demand3 =
    (net : Network) (border : ℕ) (new : List Key) (type : ℕ) → Supposed net border new type →
    -- "before the border router accepts it, for every list of 01's events, with turns of any two nodes and whatever frames pass,"
    (before : List Event) → Admissible net before →
    -- "no node sends anything under it, in the list or if asked at its end."
    NoneSendsUnder new net before
    -- "the new set's covering keys aren't used up at any node from the start of its lists"
    × (Throughout (NoneUsedUp new type) net before →
    -- "then the border router accepts it;"
    (delivery : Delivery) (time : ℕ) (payload : List ℕ) → Takes delivery (node_at (run net before) border) time payload new →
    -- "from there radio links are fixed"
    (links : Links) →
    -- "for every h, take every further list of such events,"
    (h : ℕ) (after : List Event) → Admissible (handed (run net before) border delivery time payload) after →
    -- "with turns only of neighbours," "and every turn asks for that type",
    AllLinked links type after →
    -- "that holds h rounds one after another."
    Rounds links type h after →
    -- "to their end"
    Throughout (NoneUsedUp new type) (handed (run net before) border delivery time payload) after →
    -- "after it every node at most h hops from the border router"
    (i : ℕ) → i < length net → Hops (Neighbours links) h border i →
    -- "has the new set active, none pending and no old key, and sends that type under the new set."
    Rekeyed new type (node_at (run (handed (run net before) border delivery time payload) after) i))
