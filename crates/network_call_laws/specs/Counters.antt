-- Frame counters of a board (document 02, request 9), said of what it hands back to the program: from a struct that holds a fresh node on,
-- as a make leaves it, no counter is used twice with one key while a key with its identifier and value stays active.
use Rattle.std.specs.Prelude.{ℕ, ◌<◌, true, List, ◌≡◌}
use Rattle.image.specs.Part.{AllBytes, is_image}
use Rattle.link_key.specs.Key.{same_secret}
use Rattle.link_key.specs.declared.Key.{Key}
use Rattle.protocol_version.specs.declared.Version.{Version}
use Rattle.protocol_version.specs.declared.Version.TheVariants.{Draft}
use Rattle.node_parameters.specs.declared.octets.HeldOctets.{HeldOctets}
use Rattle.node.specs.Node.{made}
use Rattle.node.specs.declared.node.Node.{Node}
use Rattle.node_image.specs.Answers.{frame_key_image}
use Rattle.node_image.specs.Node.{node_image}
use Rattle.node_laws.specs.Calls.{NodeCall, sending}
use Rattle.node_history_laws.specs.counters.Example.{cafe, key, joining, kept}
use Rattle.node_history_laws.specs.counters.Rising.{Stays}
use Rattle.pothatch_laws.specs.Node.{NodeOutput, Called}
use Rattle.pothatch_laws.specs.Runs.{Runs}
use Rattle.network_call_laws.specs.Turn.{Accepted}

-- the key and the counter that a board hands back
abbrev pub handed_key : NodeOutput → Key
handed_key a = (frame_key_image.get a.struct).0

abbrev pub handed_counter : NodeOutput → ℕ
handed_counter a = (frame_key_image.get a.struct).1

-- a struct that holds this node
pub record HoldsNode (n : Node) (s : List ℕ) : Type 0 where
  pub bytes : AllBytes s
  pub image : is_image node_image s ≡ true
  pub loaded : node_image.get s ≡ n

pub record CountersRiseInC : Type 0 where
  pub rises : (version : Version) (role : ℕ) (network : HeldOctets) (first : List ℕ) → HoldsNode (made version role network).node first
      -- any calls, and a sending that is not refused
      → (before : List NodeCall) (ts : List NodeOutput) (s : List ℕ) → Runs Called before first ts s
      → (type : ℕ) (a : NodeOutput) (s' : List ℕ) → Accepted (sending type) s a s'
      -- any calls while a key with its identifier and value stays active
      → (between : List NodeCall) (us : List NodeOutput) (z : List ℕ) → Runs Called between s' us z
      → Stays (handed_key a) (node_image.get s') between
      -- a sending under such a key has a higher counter
      → (again : ℕ) (b : NodeOutput) (z' : List ℕ) → Accepted (sending again) z b z' → same_secret (handed_key b) (handed_key a) ≡ true
      → handed_counter a < handed_counter b
  -- "4,294,967,295 is never used"
  pub never-last : (n : Node) (s : List ℕ) → HoldsNode n s → (type : ℕ) (a : NodeOutput) (s' : List ℕ) → Accepted (sending type) s a s'
      → handed_counter a ≡ 4294967295 → ⊥

-- ---- a border router's board joins with one key and sends; then an update brings another key beside it, and it sends again
pub record CountersInCExample : Type 0 where
  pub first : List ℕ
  pub fresh : HoldsNode (made Draft 1 cafe).node first
  pub told : List NodeOutput
  pub ready : List ℕ
  pub joins : Runs Called joining first told ready
  pub once : NodeOutput
  pub sent : List ℕ
  pub sends : Accepted (sending 1) ready once sent
  pub told-between : List NodeOutput
  pub updated : List ℕ
  pub keeps : Runs Called kept sent told-between updated
  pub stays : Stays (handed_key once) (node_image.get sent) kept
  pub twice : NodeOutput
  pub end : List ℕ
  pub sends-again : Accepted (sending 1) updated twice end
  pub same_key_lem : (handed_key once ≡ key) × (handed_key twice ≡ key)
  pub counters : (handed_counter once ≡ 0) × (handed_counter twice ≡ 1)
