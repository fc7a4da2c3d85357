-- A claim beside demand 3, with more events: also updates and join answers that a node accepts and that take no key set. In the published
-- form a clashing update is accepted without its key set (document 02, request 11), so it is no event of demand 3.
use Rattle.std.specs.Prelude.{ℕ, ◌<◌, ◌≡◌, ◌⊎◌, List, [], ◌∷◌, length}
use Rattle.cojp.specs.declared.disposition.Disposition.TheVariants.{Taken}
use Rattle.node.specs.Delivery.{deliver}
use Rattle.node_attempt.specs.declared.delivery.Delivery.{Delivery}
use Rattle.node.specs.declared.node.Node.{Node}
use Rattle.node_laws.specs.Calls.{NodeCall, starting, polling, delivering, asking, sending, receiving, reporting}
use Rattle.network.specs.Network.{Network, node_at}
use Rattle.network.specs.Events.{Event, turning, calling, step, Refuses, Admissible}
use Rattle.network.specs.Demand3.{NoneUsedUp}
use Rattle.network.specs.PartialRekey.{SomeKeyUsable, RekeyAmong}

-- handed the payload, the node takes no key set from it
abbrev pub TakesNoSet : Delivery → Node → ℕ → List ℕ → Type 0
TakesNoSet delivery n time payload = (deliver delivery n time payload).dispositions.keys ≡ Taken → ⊥

-- starts and polls, refused or not; updates and join answers that are refused, or that take no key set
abbrev pub PermittedAmidUpdates : Node → NodeCall → Type 0
PermittedAmidUpdates n (starting time timeout d) = Unit {0}
PermittedAmidUpdates n (polling time) = Unit {0}
PermittedAmidUpdates n (delivering delivery time payload) =
    Refuses n (delivering delivery time payload) ⊎ TakesNoSet delivery n time payload
PermittedAmidUpdates n (asking time) = ⊥
PermittedAmidUpdates n (sending type) = ⊥
PermittedAmidUpdates n (receiving type identifier) = ⊥
PermittedAmidUpdates n (reporting type identifier) = ⊥

-- turns of any two nodes with whatever frame type, and those calls at any node
unfoldable pub EventAmidUpdates : Network → Event → Type 0
EventAmidUpdates net (turning i j type) = (i < length net) × (j < length net) × (i ≡ j → ⊥)
EventAmidUpdates net (calling i c) = (i < length net) × PermittedAmidUpdates (node_at net i) c

unfoldable pub AdmissibleAmidUpdates : Network → List Event → Type 0
AdmissibleAmidUpdates net [] = Unit {0}
AdmissibleAmidUpdates net (e ∷ es) = EventAmidUpdates net e × AdmissibleAmidUpdates (step net e) es

-- the claim where some nodes may lack the set, of which demand 3's form is the case where none does (`FullCase`), under either premise on
-- counters; and demand 3's own lists are among these
pub record RekeyAmidUpdates : Type 0 where
  pub unspent : RekeyAmong AdmissibleAmidUpdates NoneUsedUp
  pub usable : RekeyAmong AdmissibleAmidUpdates SomeKeyUsable
  pub more : (net : Network) (es : List Event) → Admissible net es → AdmissibleAmidUpdates net es
