-- Buildings where some unit missed the keys (document 02, request 14): demand 3 where only some of the ordinary nodes had the new set at
-- the start. Beside each clause stand the words that it is for. Demand 3 itself is the case where all had it (`FullCase`).
use Rattle.std.specs.Prelude.{ℕ, ◌<◌, ◌≡◌, Bool, true, false, List, [], length}
use Rattle.link_key.specs.set.KeySet.{Apart, Covers}
use Rattle.link_key.specs.declared.Key.{Key}
use Rattle.node.specs.Node.{active_of, pending_of}
use Rattle.node.specs.Range.{Valid}
use Rattle.node_laws.specs.Laws.{CanSend, Takes}
use Rattle.node_attempt.specs.declared.delivery.Delivery.{Delivery}
use Rattle.node.specs.declared.node.Node.{Node}
use Rattle.network.specs.Network.{Network, node_at}
use Rattle.network.specs.Events.{Event, run, Admissible, Throughout}
use Rattle.network.specs.Rounds.{Links, Neighbours, Towards, Hops, AllLinked, Rounds}
use Rattle.network.specs.Demand3.{Supposed, NoneUsedUp, NoneSendsUnder, Rekeyed, handed}

-- a node that shares no identifier with the set
pub record Lacks (new : List Key) (n : Node) : Type 0 where
  pub active : Apart (active_of n) new
  pub pending : Apart (pending_of n) new

-- what is supposed at the start, of a network with its border router at that place, the new set and the frame type, where these nodes had
-- the set: as demand 3 does, but for the nodes that lack it
pub record SupposedSome (had : ℕ → Bool) (net : Network) (border : ℕ) (new : List Key) (type : ℕ) : Type 0 where
  pub valid : (i : ℕ) → i < length net → Valid (node_at net i)
  pub inside : border < length net
  pub is-border : (node_at net border).role ≡ 1
  pub ordinary : (i : ℕ) → i < length net → (i ≡ border → ⊥) → (node_at net i).role ≡ 0
  pub covering : Covers new type
  -- "all had it pending at the start"
  pub pending : (i : ℕ) → i < length net → (node_at net i).role ≡ 0 → had i ≡ true → pending_of (node_at net i) ≡ new
  -- "let any ordinary nodes lack it, hold other sets, and share no identifier with it"
  pub lacking : (i : ℕ) → i < length net → (node_at net i).role ≡ 0 → had i ≡ false → Lacks new (node_at net i)
  pub active-at-none : (i : ℕ) → i < length net → active_of (node_at net i) ≡ new → ⊥
  pub former-apart : Apart (active_of (node_at net border)) new

-- what the two lists leave, where the nodes were as in the network `start`
pub record Followed (had : ℕ → Bool) (start : Network) (border : ℕ) (new : List Key) (type : ℕ) (links : Links) (h : ℕ)
    (net : Network) : Type 0 where
  -- "count hops only along paths whose nodes after the border router all had it pending at the start. then after h rounds each node
  -- within h such hops is as demand 3 says"
  pub reached : (i : ℕ) → i < length start → Hops (Towards links had) h border i → Rekeyed new type (node_at net i)
  -- "and the nodes that lacked it are unchanged in active set, save for their counters, if they had none pending"
  pub lacked :
      (i : ℕ) → i < length start → (node_at start i).role ≡ 0 → had i ≡ false → pending_of (node_at start i) ≡ [] →
      active_of (node_at net i) ≡ active_of (node_at start i)

-- what is supposed of the counters, at every moment of the lists: that none of the set's covering keys is used up (Demand3), or less, that
-- one is left to each node that has the set active
abbrev pub SomeKeyUsable : List Key → ℕ → Network → Type 0
SomeKeyUsable new type net = (i : ℕ) → i < length net → active_of (node_at net i) ≡ new → CanSend (node_at net i) type

-- `May` says which lists of events there are
unfoldable pub RekeyAmong : (Network → List Event → Type 0) → (List Key → ℕ → Network → Type 0) → Type 0
RekeyAmong May Unused =
    (had : ℕ → Bool) (net : Network) (border : ℕ) (new : List Key) (type : ℕ) → SupposedSome had net border new type →
    (before : List Event) → May net before →
    -- before the step nobody sends under the set, whoever had it
    NoneSendsUnder new net before
    × (Throughout (Unused new type) net before →
    (delivery : Delivery) (time : ℕ) (payload : List ℕ) → Takes delivery (node_at (run net before) border) time payload new →
    (links : Links) (h : ℕ) (after : List Event) → May (handed (run net before) border delivery time payload) after →
    AllLinked links type after → Rounds links type h after →
    Throughout (Unused new type) (handed (run net before) border delivery time payload) after →
    Followed had net border new type links h (run (handed (run net before) border delivery time payload) after))

-- "the start is the moment from which the border router's acceptance of the new set is the only update or join answer accepted at any
-- node": the events of both lists are demand 3's, which have none
abbrev pub RekeyUnder : (List Key → ℕ → Network → Type 0) → Type 0
RekeyUnder Unused = RekeyAmong Admissible Unused

-- the claim, with 02's premise on counters
abbrev pub PartialRekey : Type 0
PartialRekey = RekeyUnder NoneUsedUp

-- ---- demand 3 is the case where all had the set
abbrev pub all : ℕ → Bool
all i = true

-- the same is supposed, and the same hops count
pub record FullCase : Type 0 where
  pub supposed :
      {net : Network} {border : ℕ} {new : List Key} {type : ℕ} → Supposed net border new type →
      SupposedSome all net border new type
  pub supposed-back :
      {net : Network} {border : ℕ} {new : List Key} {type : ℕ} → SupposedSome all net border new type →
      Supposed net border new type
  pub hops : (links : Links) {h i k : ℕ} → Hops (Neighbours links) h i k → Hops (Towards links all) h i k
  pub hops-back : (links : Links) {h i k : ℕ} → Hops (Towards links all) h i k → Hops (Neighbours links) h i k
