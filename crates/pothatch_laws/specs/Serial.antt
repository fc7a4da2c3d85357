-- The calls from C on a payload that comes in parts: from a reset on, and from any image on, they answer what the calls on an arrival
-- answer, and the struct holds the arrival after them. An image may say that more than 256 bytes came: then every call but a reset is
-- RANGE, by the arrival's own answer.
use Rattle.std.specs.Prelude.{ℕ, zero, suc, Bool, true, false, List, [], ◌∷◌, ◌≡◌, length, replicate, Err}
use Rattle.refusal.specs.Verdict.{verdict_number}
use Rattle.refusal.specs.declared.Refusal.TheVariants.{Range}
use Rattle.image.specs.Effects.{on_accept}
use Rattle.image.specs.Part.{AllBytes, is_image}
use Rattle.protocol_version.specs.declared.Version.{Version}
use Rattle.protocol_version.specs.declared.Version.TheVariants.{Draft, Published}
use Rattle.cojp_serial.specs.Calls as calls
use Rattle.cojp_serial.specs.Calls.{Reader, request, configuration, SerialCall, ending, Held, begun, part, join_request, update}
use Rattle.object_image.specs.Configuration.{configuration_image}
use Rattle.object_image.specs.Request.{request_image}
use Rattle.serial_calls.specs.Ends.{EndsRequest, EndsConfiguration}
use Rattle.serial_calls.specs.Parts.{Resets, Parts}
use Rattle.serial_calls.specs.Serial.{serial_image}
use Rattle.pothatch_laws.specs.Runs.{Lent, lent, Runs, As}

pub data Call : Type 0 where
  resetting : Call
  sending : List ℕ → Call
  -- the numbers for the form and the reading
  ending-request : ℕ → ℕ → Call
  ending-configuration : ℕ → ℕ → Call

-- what a call answered: the number, and what stands in the struct for its result, nothing where it has none
pub record SerialOutput : Type 0 where
  pub number : ℕ
  pub result : List ℕ

abbrev pub serial_output : ℕ → List ℕ → SerialOutput
serial_output n s = record { number = n; result = s }

-- ---- a call from C, by the contract of its function
pub record Begun (x : Lent) (t : SerialOutput) (y : Lent) : Type 0 where
  pub resets : Resets x.image t.number y.image
  pub result : t.result ≡ []
  pub memory : y.memory ≡ x.memory

pub record Sent (p : List ℕ) (x : Lent) (t : SerialOutput) (y : Lent) : Type 0 where
  pub parts : Parts x.image x.memory p t.number y.image y.memory
  pub result : t.result ≡ []

-- an end is lent a struct of its size, whatever stood there
pub record EndedRequest (form reading : ℕ) (x : Lent) (t : SerialOutput) (y : Lent) : Type 0 where
  pub struct : List ℕ
  pub fits : length struct ≡ 296
  pub ends : EndsRequest x.image x.memory form reading struct t.number y.image t.result
  pub memory : y.memory ≡ x.memory

pub record EndedConfiguration (form reading : ℕ) (x : Lent) (t : SerialOutput) (y : Lent) : Type 0 where
  pub struct : List ℕ
  pub fits : length struct ≡ 570
  pub ends : EndsConfiguration x.image x.memory form reading struct t.number y.image t.result
  pub memory : y.memory ≡ x.memory

abbrev pub Did : Call → Lent → SerialOutput → Lent → Type 0
Did resetting = Begun
Did (sending p) = Sent p
Did (ending-request form reading) = EndedRequest form reading
Did (ending-configuration form reading) = EndedConfiguration form reading

-- ---- the calls on an arrival; an end that asks for a form or a reading which there is not comes to none
pub data Own : Type 0 where
  none : Own
  own : SerialCall → Own

-- form 0 is the draft and 1 the published one; reading 0 is the ordinary one and 1 the strict one
abbrev pub ends : (Version → Bool → Reader) → ℕ → ℕ → Own
ends r zero zero = own (ending (r Draft false))
ends r zero (suc zero) = own (ending (r Draft true))
ends r zero (suc (suc n)) = none
ends r (suc zero) zero = own (ending (r Published false))
ends r (suc zero) (suc zero) = own (ending (r Published true))
ends r (suc zero) (suc (suc n)) = none
ends r (suc (suc f)) reading = none

abbrev pub own_of : Call → Own
own_of resetting = own calls.resetting
own_of (sending p) = own (calls.sending p)
own_of (ending-request form reading) = ends request form reading
own_of (ending-configuration form reading) = ends configuration form reading

-- how long the struct is that a call hands back
abbrev pub struct_size : Call → ℕ
struct_size resetting = 0
struct_size (sending p) = 0
struct_size (ending-request form reading) = 296
struct_size (ending-configuration form reading) = 570

abbrev pub result_of : calls.SerialResult → List ℕ
result_of begun = []
result_of (part a) = []
result_of (join_request r) = on_accept r.verdict (replicate 296 0) (request_image.put r.request)
result_of (update r) = on_accept r.verdict (replicate 570 0) (configuration_image.put r.configuration)

-- RANGE, zeros, and nothing moved where it comes to none
abbrev pub told_by : Own → ℕ → Held → SerialOutput
told_by none n h = serial_output (verdict_number (Err Range)) (replicate n 0)
told_by (own c) n h = serial_output (verdict_number (calls.verdict_in (calls.told c h))) (result_of (calls.told c h))

abbrev pub left_by : Own → Held → Held
left_by none h = h
left_by (own c) h = calls.left c h

abbrev pub tells : Call → Held → SerialOutput
tells c h = told_by (own_of c) (struct_size c) h

abbrev pub after : Call → Held → Held
after c h = left_by (own_of c) h

-- what an image and a store hold
abbrev pub holding : List ℕ → List ℕ → Held
holding s m = record { state = serial_image.get s; store = m }

abbrev pub shown : Held → Lent
shown h = lent (serial_image.put h.state) h.store

pub record SerialRuns : Type 0 where
  -- from a reset on, which goes by no earlier arrival, so any may stand in h
  pub from-reset : (cs : List Call) (h : Held) (x : Lent) (ts : List SerialOutput) (z : Lent) → length x.image ≡ 6 → x.memory ≡ h.store
      → Runs Did (resetting ∷ cs) x ts z → As tells after shown (resetting ∷ cs) h ts z
  -- from any image on, whoever stored it, and over any store
  pub from-image : (cs : List Call) (x : Lent) (ts : List SerialOutput) (z : Lent) → AllBytes x.image
      → is_image serial_image x.image ≡ true
      → Runs Did cs x ts z → As tells after shown cs (holding x.image x.memory) ts z
