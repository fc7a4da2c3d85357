-- The end of a payload from C: what arrived is read as the reading calls read it, and the object is handed back.
use Rattle.std.specs.Prelude.{ℕ, Bool, cond, ◌&&◌, List, ◌≡◌, eqb, length}
use Rattle.refusal.specs.Verdict.{Verdict}
use Rattle.image.specs.Effects.{ResultSpec}
use Rattle.image.specs.Part.{is_image}
use Rattle.cojp_serial.specs.State.{request_end, configuration_end}
use Rattle.cojp_serial.specs.declared.state.SerialState.{SerialState}
use Rattle.cojp_serial.specs.declared.configuration.ConfigurationEnd.{ConfigurationEnd}
use Rattle.cojp_serial.specs.declared.request.RequestEnd.{RequestEnd}
use Rattle.object_image.specs.Configuration.{configuration_image}
use Rattle.object_image.specs.Request.{request_image}
use Rattle.payload_calls.specs.Asked.{is_reading}
use Rattle.payload_calls.specs.Read.{request_asked, configuration_asked}
use Rattle.serial_calls.specs.Serial.{serial_image}

-- the image s is one, and there are such a form and such a reading
abbrev pub may_end : List ℕ → ℕ → ℕ → Bool
may_end s form reading = (is_image serial_image s && is_reading form reading)

-- an object in a struct of n bytes is handed back by the verdict v. The image afterwards is that of the arrival a which the end leaves,
-- also where it is refused: an end whose reading was refused stays marked
pub record Ends (n : ℕ) (right : Bool) (v : Verdict) (object : List ℕ) (a : SerialState) (s out : List ℕ) (r : ℕ)
    (s' out' : List ℕ) : Type 0 where
  pub hands : ResultSpec n right v object out r out'
  pub serial : s' ≡ cond (eqb (length out) n && right) (serial_image.put a) s

-- ---- the end by the arrival in the image s and the store m
abbrev pub request_ended : List ℕ → List ℕ → ℕ → ℕ → RequestEnd
request_ended s m form reading = request_end (request_asked form reading) (serial_image.get s) m

abbrev pub EndsRequest : List ℕ → List ℕ → ℕ → ℕ → List ℕ → ℕ → List ℕ → List ℕ → Type 0
EndsRequest s m form reading out r s' out' =
    let e = request_ended s m form reading in
    Ends 296 (may_end s form reading) e.read.verdict (request_image.put e.read.request) e.state s out r s' out'

abbrev pub configuration_ended : List ℕ → List ℕ → ℕ → ℕ → ConfigurationEnd
configuration_ended s m form reading = configuration_end (configuration_asked form reading) (serial_image.get s) m

abbrev pub EndsConfiguration : List ℕ → List ℕ → ℕ → ℕ → List ℕ → ℕ → List ℕ → List ℕ → Type 0
EndsConfiguration s m form reading out r s' out' =
    let e = configuration_ended s m form reading in
    Ends 570 (may_end s form reading) e.read.verdict (configuration_image.put e.read.configuration) e.state s out r s' out'
