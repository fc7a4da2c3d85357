-- Values and their images: whatever bytes are read, what is read has an image, and so has every node that calls lead to, and what they hand
-- back in a struct.
use Rattle.std.specs.Prelude.{ℕ, ◌<◌, ◌^◌, Bool, List}
use Rattle.image.specs.Part.{AllBytes}
use Rattle.cbor.specs.Strict.{head_by}
use Rattle.cojp.specs.Configuration.{read_configuration_by}
use Rattle.cojp.specs.Request.{read_request_by}
use Rattle.protocol_version.specs.declared.Version.{Version}
use Rattle.node.specs.declared.node.Node.{Node}
use Rattle.node_calls.specs.Calls.{made_of}
use Rattle.node_image.specs.Answers.{dispositions_image, frame_key_image}
use Rattle.node_image.specs.Node.{node_image}
use Rattle.node_laws.specs.Calls.{NodeCall, starting, polling, delivering, asking, sending, receiving, reporting, perform}
use Rattle.node_laws.specs.Calls.{Object, nothing, written, step, reports, state, key, counted, effect}
use Rattle.object_image.specs.Configuration.{configuration_image}
use Rattle.object_image.specs.Request.{request_image}

-- ---- calls that a program can make: times of eight bytes, payloads of bytes
abbrev pub Time : ℕ → Type 0
Time t = t < 256 ^ 8

abbrev pub Callable : NodeCall → Type 0
Callable (starting time timeout d) = Time time × Time timeout
Callable (polling time) = Time time
Callable (delivering delivery time payload) = Time time × AllBytes payload
Callable (asking time) = Time time
Callable (sending type) = type < 256
Callable (receiving type identifier) = type < 256
Callable (reporting type identifier) = type < 256

-- what is read of the payload has an image, in both forms, by the strict reading and by the ordinary one
pub record ReadsFit (payload : List ℕ) : Type 0 where
  pub configuration : (v : Version) (strict : Bool)
      → configuration_image.Fit (read_configuration_by v (head_by strict) payload).configuration
  pub request : (v : Version) (strict : Bool) → request_image.Fit (read_request_by v (head_by strict) payload).request

-- what a call answers with has an image, where it is handed back in a struct: reports, or a frame's key
abbrev pub AnswerFits : Object → Type 0
AnswerFits nothing = Unit {0}
AnswerFits (written n) = Unit {0}
AnswerFits (step d) = Unit {0}
AnswerFits (reports r) = dispositions_image.Fit r
AnswerFits (state h) = Unit {0}
AnswerFits (key k) = frame_key_image.Fit (k, 0)
AnswerFits (counted k n) = frame_key_image.Fit (k, n)
AnswerFits (effect x) = Unit {0}

pub record CallsFit : Type 0 where
  pub reads_fit : (payload : List ℕ) → AllBytes payload → ReadsFit payload
  -- a node that is made has an image, and so has the empty one beside a refusal
  pub made-fits : (form role has : ℕ) (x : List ℕ) → AllBytes x → node_image.Fit (made_of form role has x).node
  -- every call leaves a node that has one with one
  pub keeps-fit : (c : NodeCall) (n : Node) → Callable c → node_image.Fit n → node_image.Fit (perform c n).node
  -- and what it hands back in a struct has one
  pub answer-fits : (c : NodeCall) (n : Node) → Callable c → node_image.Fit n → AnswerFits (perform c n).object
