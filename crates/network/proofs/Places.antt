-- The kinds of a network's nodes, place by place, follow its events: an event changes the nodes that it names and no other.
use Prim.Native.Nat.{ℕ, ◌<◌}
use native.Mathlib.Decide.{ℕ_discrete}
use mathlib.Core.Path.{◌≡◌, refl, ap, ◌∙◌}
use mathlib.Core.Logic.{inl, inr, ⊎_elim}
use mathlib.Core.List.Memᴰ
use mathlib.Core.List.{List, [], ◌∷◌}
use borrow.Author.Tests.{eq-eqb, ne_eqb}
use lib.ListN.{length, length-set}
use lib.Seq.{get_or-set_same, get_or-set_other}
use Rattle.link_key.specs.declared.Key.{Key}
use Rattle.node.specs.Delivery.{deliver}
use Rattle.node.specs.Node.{empty_node, active_of, pending_of}
use Rattle.node_attempt.specs.declared.delivery.Delivery.{Delivery}
use Rattle.node_key_sets.specs.Sets.{active_in, pending_in}
use Rattle.node_laws.specs.Calls.{NodeCall, starting, polling, delivering, asking, sending, receiving, reporting, perform}
use Rattle.node_laws.specs.Laws.{KeysStay, CanSend, NodeLaws}
use Rattle.node.specs.declared.node.Node.{Node}
use Rattle.network.specs.Network.{Network, node_at, with_node}
use Rattle.network.specs.Events.{Event, turning, calling, step, run, Throughout}
use Rattle.network.specs.AmidUpdates.{TakesNoSet, PermittedAmidUpdates, EventAmidUpdates, AdmissibleAmidUpdates}
use Rattle.network.specs.Rounds.{Links, Linked, AllLinked}
use Rattle.network.specs.PartialRekey.{SomeKeyUsable}
use Rattle.network_turn.specs.Turn.{turn}
use Rattle.network.proofs.Turns.{stay-self, sender-stays, receiver-either, receiver-role}
use Rattle.network.proofs.Receiving.{Kind, new, Quiet, IsNew, Is, becomes, stays-is, turn-becomes}
use Rattle.network.proofs.Flood.{Kinds, with, moves, flows, still}

-- ---- one node replaced
module _ (net : Network) (i : ℕ) (n : Node) where
  pub size-with : length (with_node net i n) ≡ length net
  unfolding with_node
  size-with = length-set net i n

  at_same : i < length net → node_at (with_node net i n) i ≡ n
  unfolding node_at with_node
  at_same l = get_or-set_same net i n empty_node l

  pub at_other : (k : ℕ) → (k ≡ i → ⊥) → node_at (with_node net i n) k ≡ node_at net k
  unfolding node_at with_node
  at_other k f = get_or-set_other net i k n empty_node f

-- what holds of each node by its place, P, still holds, as Q, where one of them is replaced
abbrev pub All : (ℕ → Node → Type 0) → Network → Type 0
All P net = (k : ℕ) → k < length net → P k (node_at net k)

all-with :
    (P Q : ℕ → Node → Type 0) (net : Network) (i : ℕ) (n : Node) → All P net → Q i n →
    ((k : ℕ) (m : Node) → (k ≡ i → ⊥) → P k m → Q k m) → All Q (with_node net i n)
all-with P Q net i n a q others k l = go (ℕ_discrete k i)
  where
    inside : k < length net
    inside = rw (size-with net i n) at l

    go : Dec (k ≡ i) → Q k (node_at (with_node net i n) k)
    go (yes e) = rw (e, at_same net i n (rw e at inside)) q
    go (no f) = rw (at_other net i n k f) (others k (node_at net k) f (a k inside))

all-still : (P : ℕ → Node → Type 0) (net : Network) (i : ℕ) (n : Node) → All P net → P i n → All P (with_node net i n)
all-still P net i n a p = all-with P P net i n a p (λ k m f q. q)

-- ---- each node is of the kind that its place says
abbrev pub Are : List Key → Kinds → Network → Type 0
Are ks kinds net = All (λ (k : ℕ) (n : Node). Is ks (kinds k) n) net

module _ (ks : List Key) (kinds : Kinds) (net : Network) (i : ℕ) (n : Node) (a : Are ks kinds net) where
  pub are-with : (kind : Kind) → Is ks kind n → Are ks (with kinds i kind) (with_node net i n)
  are-with kind p =
      all-with (λ k m. Is ks (kinds k) m) (λ k m. Is ks (with kinds i kind k) m) net i n a (rw (eq-eqb i i refl) p)
      (λ k m f q. rw (ne_eqb k i f) q)

  are-still : Is ks (kinds i) n → Are ks kinds (with_node net i n)
  are-still p = all-still (λ k m. Is ks (kinds k) m) net i n a p

-- ---- one event
module _ (L : NodeLaws) where
  -- what takes no key set leaves the keys
  untaken-stays : (delivery : Delivery) (n : Node) (time : ℕ) (payload : List ℕ) → TakesNoSet delivery n time payload
      → KeysStay n (deliver delivery n time payload).node
  untaken-stays delivery n time payload h =
      let sets = L.untaken-stays delivery n time payload h in
      record {
        active = ap active_in sets;
        pending = ap pending_in sets;
        role = unfold perform in L.role-stays (delivering delivery time payload) n;
        valid = unfold perform in L.stays-valid (delivering delivery time payload) n;
      }

  -- starts and polls leave the keys, and a call that is refused leaves the node
  call_stays : (n : Node) (c : NodeCall) → PermittedAmidUpdates n c → KeysStay n (perform c n).node
  call_stays n (starting time timeout d) h = unfold perform in L.start-stays n time timeout d
  call_stays n (polling time) h = unfold perform in L.poll-stays n time
  call_stays n (delivering delivery time payload) (inl h) =
      rw (L.refused-stays (delivering delivery time payload) n h.why h.refused) (stay-self n)
  call_stays n (delivering delivery time payload) (inr h) = unfold perform in untaken-stays delivery n time payload h
  call_stays n (asking time) h = absurd h
  call_stays n (sending type) h = absurd h
  call_stays n (receiving type identifier) h = absurd h
  call_stays n (reporting type identifier) h = absurd h

module _ (L : NodeLaws) (ks : List Key) where
  -- a node that has switched can send the type that it is asked for
  abbrev Ready : Kinds → Network → Event → Type 0
  Ready kinds net (turning i j type) = kinds i ≡ new → CanSend (node_at net i) type
  Ready kinds net (calling i c) = Unit {0}

  step-are :
      (kinds : Kinds) (net : Network) (e : Event) → EventAmidUpdates net e → Ready kinds net e → Are ks kinds net →
      Are ks (moves kinds e) (step net e)
  unfolding step EventAmidUpdates
  step-are kinds net (turning i j type) h f a =
      let t = turn (node_at net i) (node_at net j) type in
      let s = stays-is ks (kinds i) (sender-stays L (node_at net i) (node_at net j) type) (a i h.0) in
      are-with ks kinds (with_node net i t.sender) j t.receiver (are-still ks kinds net i t.sender a s)
      (becomes (kinds i) (kinds j))
      (turn-becomes L ks (node_at net i) (node_at net j) type (kinds i) (kinds j) f (a i h.0) (a j h.1))
  step-are kinds net (calling i c) h f a =
      are-still ks kinds net i (perform c (node_at net i)).node a
      (stays-is ks (kinds i) (call_stays L (node_at net i) c h.1) (a i h.0))

  -- ---- a list of events
  -- where no node has switched, each node's kind stays, whatever the frame types
  module _ (kinds : Kinds) (quiet : (k : ℕ) → Quiet (kinds k)) where
    pub step-quiet : (net : Network) (e : Event) → EventAmidUpdates net e → Are ks kinds net → Are ks kinds (step net e)
    step-quiet net e h a k l = rw (still kinds quiet e k) at (step-are kinds net e h (ready e) a k l)
      where
        ready : (e : Event) → Ready kinds net e
        ready (turning i j type) = λ w. absurd (rw w at (quiet i))
        ready (calling i c) = tt

    pub run-quiet : (net : Network) (es : List Event) → AdmissibleAmidUpdates net es → Are ks kinds net → Are ks kinds (run net es)
    unfolding run AdmissibleAmidUpdates
    run-quiet net [] h a = a
    run-quiet net (e ∷ es) h a = run-quiet (step net e) es h.1 (step-quiet net e h.0 a)

  -- with turns of a type for which each node that has the set active has a key left, the kinds flow
  module _ (links : Links) (type : ℕ) where
    ready :
        (kinds : Kinds) (net : Network) (e : Event) → EventAmidUpdates net e → Linked links type e → SomeKeyUsable ks type net →
        Are ks kinds net →
        Ready kinds net e
    unfolding EventAmidUpdates
    ready kinds net (turning i j u) h l left a = λ w. let is : IsNew ks (node_at net i) = rw w at (a i h.0) in
        rw l.1 (left i h.0 is.active)
    ready kinds net (calling i c) h l left a = tt

    pub run-flows :
        (kinds : Kinds) (net : Network) (es : List Event) → AdmissibleAmidUpdates net es → AllLinked links type es →
        Throughout (SomeKeyUsable ks type) net es →
        Are ks kinds net → Are ks (flows kinds es) (run net es)
    unfolding run AdmissibleAmidUpdates Throughout
    run-flows kinds net [] h l u a = a
    run-flows kinds net (e ∷ es) h l u a =
        run-flows (moves kinds e) (step net e) es h.1 (λ x m. l x (Memᴰ.tail m)) u.1
        (step-are kinds net e h.0 (ready kinds net e h.0 (l e (Memᴰ.head refl)) u.0 a) a)

-- ---- what holds at every moment holds at the end, and so does what follows from it
pub throughout-map :
    (P Q : Network → Type 0) → ((net : Network) → P net → Q net) → (net : Network) (es : List Event) → Throughout P net es
    → Throughout Q net es
unfolding Throughout
throughout-map P Q f net [] u = f net u
throughout-map P Q f net (e ∷ es) u = (f net u.0, throughout-map P Q f (step net e) es u.1)

pub at-end : (P : Network → Type 0) (net : Network) (es : List Event) → Throughout P net es → P (run net es)
unfolding run Throughout
at-end P net [] u = u
at-end P net (e ∷ es) u = at-end P (step net e) es u.1

-- ---- sizes and roles stay
pub size_step : (net : Network) (e : Event) → length (step net e) ≡ length net
unfolding step
size_step net (turning i j type) = size-with _ j _ ∙ size-with net i _
size_step net (calling i c) = size-with net i _

pub size-run : (net : Network) (es : List Event) → length (run net es) ≡ length net
unfolding run
size-run net [] = refl
size-run net (e ∷ es) = size-run (step net e) es ∙ size_step net e

module _ (L : NodeLaws) where
  abbrev RoleOf : Network → ℕ → Node → Type 0
  RoleOf net k n = n.role ≡ (node_at net k).role

  step-role : (net : Network) (e : Event) → All (RoleOf net) (step net e)
  unfolding step
  step-role net (turning i j type) =
      let t = turn (node_at net i) (node_at net j) type in
      all-still (RoleOf net) (with_node net i t.sender) j t.receiver
      (all-still (RoleOf net) net i t.sender (λ k l. refl) (sender-stays L (node_at net i) (node_at net j) type).role)
      (receiver-role L (node_at net i) (node_at net j) type)
  step-role net (calling i c) = all-still (RoleOf net) net i (perform c (node_at net i)).node (λ k l. refl) (L.role-stays c (node_at net i))

  pub run-role : (net : Network) (es : List Event) (k : ℕ) → k < length net → (node_at (run net es) k).role ≡ (node_at net k).role
  unfolding run
  run-role net [] k l = refl
  run-role net (e ∷ es) k l =
      let inside : k < length (step net e) = rw (size_step net e) l in
      run-role (step net e) es k inside ∙ step-role net e k inside

-- ---- a node with nothing pending keeps its active set
-- the node m has the active set of n and none pending
pub record Unmoved (n m : Node) : Type 0 where
  pub active : active_of m ≡ active_of n
  pub pending : pending_of m ≡ []

-- so is each node that had none pending in the network that was
abbrev pub UnmovedFrom : Network → ℕ → Node → Type 0
UnmovedFrom start k n = pending_of (node_at start k) ≡ [] → Unmoved (node_at start k) n

unmoved-stays : {n a b : Node} → KeysStay a b → Unmoved n a → Unmoved n b
unmoved-stays q u = record { active = q.active ∙ u.active; pending = q.pending ∙ u.pending }

module _ (L : NodeLaws) where
  unmoved-receives : {n : Node} (a b : Node) (type : ℕ) → Unmoved n b → Unmoved n (turn a b type).receiver
  unmoved-receives a b type u =
      ⊎_elim (λ q. unmoved-stays q u) (λ d. absurd (Memᴰ.not-nil (rw u.pending at d.by.member))) (receiver-either L a b type)

  module _ (start : Network) where
    step-unmoved : (net : Network) (e : Event) → EventAmidUpdates net e → All (UnmovedFrom start) net → All (UnmovedFrom start) (step net e)
    unfolding step EventAmidUpdates
    step-unmoved net (turning i j type) h a =
        let t = turn (node_at net i) (node_at net j) type in
        all-still (UnmovedFrom start) (with_node net i t.sender) j t.receiver
        (all-still (UnmovedFrom start) net i t.sender a
        (λ e. unmoved-stays (sender-stays L (node_at net i) (node_at net j) type) (a i h.0 e)))
        (λ e. unmoved-receives (node_at net i) (node_at net j) type (a j h.1 e))
    step-unmoved net (calling i c) h a =
        all-still (UnmovedFrom start) net i (perform c (node_at net i)).node a
        (λ e. unmoved-stays (call_stays L (node_at net i) c h.1) (a i h.0 e))

    pub run-unmoved : (net : Network) (es : List Event) → AdmissibleAmidUpdates net es → All (UnmovedFrom start) net
        → All (UnmovedFrom start) (run net es)
    unfolding run AdmissibleAmidUpdates
    run-unmoved net [] h a = a
    run-unmoved net (e ∷ es) h a = run-unmoved (step net e) es h.1 (step-unmoved net e h.0 a)
