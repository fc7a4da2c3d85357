-- Demand 3 for a network whose nodes stand in structs and are driven by the calls of the library for C. What it supposes is said of the
-- nodes in the structs; what it promises is said of what the boards answer, too.
use Rattle.std.specs.Prelude.{ℕ, ◌<◌, ◌≡◌, length}
use mathlib.Core.List.{List, [], ◌∷◌, Memᴰ}
use Rattle.link_key.specs.declared.Key.{Key}
use Rattle.node_attempt.specs.declared.delivery.Delivery.{Delivery}
use Rattle.node_image.specs.Answers.{frame_key_image}
use Rattle.node_image.specs.Node.{node_image}
use Rattle.node_laws.specs.Calls.{sending, delivering}
use Rattle.node_laws.specs.Laws.{Takes}
use Rattle.network.specs.Demand3.{Supposed, NoneUsedUp, Rekeyed}
use Rattle.network.specs.Events.{Event, calling, Admissible, Throughout}
use Rattle.network.specs.Network.{node_at}
use Rattle.network.specs.Rounds.{Links, Neighbours, Hops, AllLinked, Rounds}
use Rattle.pothatch_laws.specs.Node.{NodeOutput, Called}
use Rattle.pothatch_laws.specs.Runs.{Runs}
use Rattle.network_call_laws.specs.Network.{Structs, struct_at, Images, loaded, Answer, Did}
use Rattle.network_call_laws.specs.Turn.{Accepted}

-- a board that was asked for the key to send with, and did not refuse, handed back a key of the set
abbrev pub HandsOneOf : List Key → NodeOutput → Type 0
HandsOneOf new a = Memᴰ (frame_key_image.get a.struct).0 new

-- no board does, whatever the frame type
abbrev pub NoneSends : List Key → Structs → Type 0
NoneSends new structs =
    (i type : ℕ) (a : NodeOutput) (s' : List ℕ) → i < length structs → Accepted (sending type) (struct_at structs i) a s' → HandsOneOf new a
    → ⊥

-- the events were played, and P holds at every moment, the start and the end included
pub data AtEach (P : Structs → Type 0) : List Event → Structs → List Answer → Structs → Type 0 where
  at-end : {x : Structs} → P x → AtEach P [] x [] x
  at_next : {e : Event} {es : List Event} {x y z : Structs} {t : Answer} {ts : List Answer} → P x → Did e x t y → AtEach P es y ts z
      → AtEach P (e ∷ es) x (t ∷ ts) z

-- a board that followed the rekey: so did the node in its struct s, and asked for the key to send the type with, it hands back one of the
-- set
pub record Follows (new : List Key) (type : ℕ) (s : List ℕ) : Type 0 where
  pub node : Rekeyed new type (node_image.get s)
  pub sends : (a : NodeOutput) (s' : List ℕ) → Called (sending type) s a s' → (a.number ≡ 0) × HandsOneOf new a

unfoldable pub Demand3InC : Type 0
Demand3InC =
    (structs : Structs) (border : ℕ) (new : List Key) (type : ℕ) → Images structs → Supposed (loaded structs) border new type →
    -- before the border router accepts the set, after any list of events
    (before : List Event) (ts : List Answer) (x : Structs) → Runs Did before structs ts x → Admissible (loaded structs) before →
    -- no board sends under it, at any moment of the list
    AtEach (NoneSends new) before structs ts x
    × (Throughout (NoneUsedUp new type) (loaded structs) before →
    -- the border router's board is handed the set, and accepts it
    (delivery : Delivery) (time : ℕ) (payload : List ℕ) (t : Answer) (y : Structs) →
    Did (calling border (delivering delivery time payload)) x t y → Takes delivery (node_at (loaded x) border) time payload new →
    -- then h rounds
    (links : Links) (h : ℕ) (after : List Event) (us : List Answer) (z : Structs) → Runs Did after y us z → Admissible (loaded y) after →
    AllLinked links type after → Rounds links type h after → Throughout (NoneUsedUp new type) (loaded y) after →
    -- and every board at most h hops away has followed
    (i : ℕ) → i < length structs → Hops (Neighbours links) h border i → Follows new type (struct_at z i))
