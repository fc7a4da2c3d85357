-- What a caller may rely on at every call: where the number is not 0, state and destinations hold what they held, but for the two marks of
-- a payload in parts, and results are all zero, which read as the empty object and which no call takes for an image. A struct of another
-- length is not touched.
use Rattle.std.specs.Prelude.{ℕ, false, List, ◌≡◌, replicate}
use Rattle.address_ledger.specs.Ledger.{empty_ledger}
use Rattle.cojp.specs.Configuration.{empty_configuration}
use Rattle.cojp.specs.Request.{empty_request}
use Rattle.image.specs.Effects.{zeroed}
use Rattle.image.specs.Part.{is_image}
use Rattle.join_proxy.specs.Judging.{nobody}
use Rattle.link_key.specs.Key.{no_key}
use Rattle.node.specs.Node.{empty_node}
use Rattle.node_parameters.specs.Dispositions.{no_dispositions}
use Rattle.node_image.specs.Answers.{dispositions_image, frame_key_image}
use Rattle.node_image.specs.Node.{node_image}
use Rattle.object_image.specs.Configuration.{configuration_image}
use Rattle.object_image.specs.Request.{request_image}
use Rattle.cipher_calls.specs.Laws.{CipherRefusals}
use Rattle.ledger_calls.specs.Laws.{LedgerRefusals}
use Rattle.payload_calls.specs.Laws.{PayloadRefusals}
use Rattle.node_calls.specs.Laws.{NodeRefusals}
use Rattle.proxy_calls.specs.Laws.{ProxyRefusals}
use Rattle.replay_calls.specs.Laws.{ReplayRefusals}
use Rattle.replay_calls.specs.Replayed.{replayed_image}
use Rattle.serial_calls.specs.Laws.{SerialRefusals}
use Rattle.state_image.specs.Ledger.{ledger_image}
use Rattle.state_image.specs.Proxy.{proxy_image, pledge_image}
use Rattle.pothatch.specs.Library.{size_of, size_number, Names}
use Rattle.pothatch.specs.Usage.{UsageSpec}

pub record RefusalsKeep : Type 0 where
  pub size : (kind r v : ℕ) → r ≡ size_number kind → v ≡ size_of kind → (r ≡ 0 → ⊥) → v ≡ 0
  pub name : (number : ℕ) (s : List ℕ) (r : ℕ) (s' : List ℕ) → Names number s r s' → (r ≡ 0 → ⊥) → s' ≡ zeroed 8 s
  pub usage : (usage r e m : ℕ) → UsageSpec usage r e m → (r ≡ 0 → ⊥) → (e ≡ 0) × (m ≡ 0)
  pub payload : PayloadRefusals
  pub node : NodeRefusals
  -- an overrun and the end of a payload stay marked in the image though the call is refused
  pub serial : SerialRefusals
  pub replay : ReplayRefusals
  pub ledger : LedgerRefusals
  pub cipher : CipherRefusals
  pub proxy : ProxyRefusals

-- an emptied result is no image
pub record EmptiedIsNone : Type 0 where
  pub request : is_image request_image (replicate 296 0) ≡ false
  pub configuration : is_image configuration_image (replicate 570 0) ≡ false
  pub node : is_image node_image (replicate 878 0) ≡ false
  pub reports : is_image dispositions_image (replicate 17 0) ≡ false
  pub frame-key : is_image frame_key_image (replicate 33 0) ≡ false
  pub ledger : is_image ledger_image (replicate 16 0) ≡ false
  pub proxy : is_image proxy_image (replicate 26 0) ≡ false
  pub pledge : is_image pledge_image (replicate 21 0) ≡ false
  pub replayed : is_image replayed_image (replicate 251 0) ≡ false

-- and reads as the empty object
pub record EmptiedIsEmpty : Type 0 where
  pub request : request_image.get (replicate 296 0) ≡ empty_request
  pub configuration : configuration_image.get (replicate 570 0) ≡ empty_configuration
  pub node : node_image.get (replicate 878 0) ≡ empty_node
  pub reports : dispositions_image.get (replicate 17 0) ≡ no_dispositions
  pub frame-key : frame_key_image.get (replicate 33 0) ≡ (no_key, 0)
  pub ledger : ledger_image.get (replicate 16 0) ≡ empty_ledger
  pub pledge : pledge_image.get (replicate 21 0) ≡ nobody
