-- Whatever a call from C hands back in a struct is stored without loss: each value that a contract puts there fits its image, wherever what
-- was lent are bytes and images; and what fits is loaded as it was (`RoundTrips`). Where a call is refused, a result is zeros and a state
-- stays; only an arrival is stored then too, since an overrun and an end stay marked.
use Rattle.std.specs.Prelude.{ℕ, ◌^◌, ◌<◌, true, List, ◌≡◌, length}
use Rattle.image.specs.Part.{Part, AllBytes, is_image}
use Rattle.address_ledger.specs.Ledger.{opened}
use Rattle.address_ledger_laws.specs.Demand1.{asking, returning}
use Rattle.aes_ccm.specs.Plan.{Plan}
use Rattle.cojp_merge.specs.Merge.{merge_answer}
use Rattle.cojp_serial.specs.State.{empty_state}
use Rattle.join_proxy.specs.Issuing.{after_issue}
use Rattle.join_proxy.specs.Judging.{judge_body}
use Rattle.join_proxy.specs.Keys.{fresh, set_key}
use Rattle.ledger_calls.specs.Ledger as ledgers
use Rattle.node_call_laws.specs.Fits.{Callable, AnswerFits}
use Rattle.node_calls.specs.Calls.{made_of, performed_in}
use Rattle.node_image.specs.Node.{node_image}
use Rattle.node_laws.specs.Calls.{NodeCall}
use Rattle.object_image.specs.Configuration.{configuration_image}
use Rattle.object_image.specs.Request.{request_image}
use Rattle.payload_calls.specs.Read.{request_asked, configuration_asked}
use Rattle.replay_calls.specs.Replayed.{walk_of, replayed_image}
use Rattle.serial_calls.specs.Ends.{request_ended, configuration_ended}
use Rattle.serial_calls.specs.Parts.{part_in}
use Rattle.serial_calls.specs.Serial.{serial_image}
use Rattle.state_image.specs.Ledger.{ledger_image}
use Rattle.state_image.specs.Proxy.{proxy_image, pledge_image}
use Rattle.trace.specs.Replay.{replay}

-- bytes that are an image
pub record Holds {A : Type 0} (p : Part A) (s : List ℕ) : Type 0 where
  pub bytes : AllBytes s
  pub image : is_image p s ≡ true

-- sixteen bytes
pub record IsKey (key : List ℕ) : Type 0 where
  pub bytes : AllBytes key
  pub long : length key ≡ 16

pub record ResultsFit : Type 0 where
  -- ---- payloads: read, in either form and by either reading, at once or at the end of its parts, which the store m holds; and merged
  pub request : (form reading : ℕ) (p : List ℕ) → AllBytes p → request_image.Fit (request_asked form reading p).request
  pub configuration : (form reading : ℕ) (p : List ℕ) → AllBytes p
      → configuration_image.Fit (configuration_asked form reading p).configuration
  pub request-end : (s m : List ℕ) (form reading : ℕ) → AllBytes m → request_image.Fit (request_ended s m form reading).read.request
  pub configuration-end : (s m : List ℕ) (form reading : ℕ) → AllBytes m
      → configuration_image.Fit (configuration_ended s m form reading).read.configuration
  pub merged : (s t : List ℕ) → Holds configuration_image s → Holds configuration_image t
      → configuration_image.Fit (merge_answer (configuration_image.get s) (configuration_image.get t)).configuration
  -- ---- nodes: made, and after a call; and the reports or the frame's key that a call hands back
  pub made : (form role has : ℕ) (x : List ℕ) → AllBytes x → node_image.Fit (made_of form role has x).node
  pub node : (c : NodeCall) (s : List ℕ) → Callable c → Holds node_image s → node_image.Fit (performed_in c s).node
  pub answer : (c : NodeCall) (s : List ℕ) → Callable c → Holds node_image s → AnswerFits (performed_in c s).object
  -- ---- a replay: the node, and what is told beside it; a program holds fewer than 2^64 bytes
  pub replayed-node : (t : List ℕ) → AllBytes t → node_image.Fit (replay t).node
  pub replayed : (t : List ℕ) → AllBytes t → length t < 256 ^ 8 → replayed_image.Fit (walk_of (replay t))
  -- ---- ledgers: opened, and after a board asked or gave back, over any memory
  pub ledger : (first size : ℕ) (m : List ℕ) → ledger_image.Fit (opened first size m).ledger
  pub granted : (board s m : List ℕ) → Holds ledger_image s → ledger_image.Fit (ledgers.performed_in (asking board) s m).ledger
  pub given_back : (board s m : List ℕ) → Holds ledger_image s → ledger_image.Fit (ledgers.performed_in (returning board) s m).ledger
  -- ---- arrivals: reset, and after a part or an end, over any store
  pub arrival : serial_image.Fit empty_state
  pub part : (s m p : List ℕ) → Holds serial_image s → serial_image.Fit (part_in s m p).state
  pub ended-request : (s m : List ℕ) (form reading : ℕ) → Holds serial_image s → serial_image.Fit (request_ended s m form reading).state
  pub ended-configuration : (s m : List ℕ) (form reading : ℕ) → Holds serial_image s
      → serial_image.Fit (configuration_ended s m form reading).state
  -- ---- proxies: made, with another key, and after whatever an issue comes to; and the pledge that a body names
  pub proxy : (key : List ℕ) → IsKey key → proxy_image.Fit (fresh key)
  pub keyed : (s key : List ℕ) → Holds proxy_image s → IsKey key → proxy_image.Fit (set_key (proxy_image.get s) key).proxy
  pub issued : (s : List ℕ) (plan : Plan) → Holds proxy_image s → proxy_image.Fit (after_issue plan (proxy_image.get s))
  pub judged : (s body : List ℕ) → Holds proxy_image s → AllBytes body → pledge_image.Fit (judge_body (proxy_image.get s) body).pledge
