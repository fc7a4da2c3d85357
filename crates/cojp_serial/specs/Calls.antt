-- Whole lists of these calls, each of which gets arrival and store as the one before left them: nothing else writes the store.
use Rattle.std.specs.Prelude.{ℕ, ◌+◌, Bool, false, ◌||◌, List, [], ◌∷◌, ◌++◌, eqb, length, Ok, Err}
use Rattle.refusal.specs.Verdict.{verdict_number}
use Rattle.refusal.specs.declared.Refusal.TheVariants.{Long}
use Rattle.refusal.specs.Verdict.{Verdict}
use Rattle.cbor.specs.Strict.{head_by}
use Rattle.cojp.specs.Configuration.{read_configuration_by}
use Rattle.cojp.specs.Request.{read_request_by}
use Rattle.cojp.specs.declared.configuration.ConfigurationRead.{ConfigurationRead}
use Rattle.cojp.specs.declared.request.RequestRead.{RequestRead}
use Rattle.protocol_version.specs.declared.Version.{Version}
use Rattle.cojp_serial.specs.State.{empty_state, decision_of, part_answer, part_store, end_state, request_end, configuration_end}
use Rattle.cojp_serial.specs.declared.state.SerialState.{SerialState}
use Rattle.cojp_serial.specs.declared.state.PartDecision.{PartDecision}
use Rattle.cojp_serial.specs.declared.parts.PartResult.{PartResult}

-- the readings: of a form, strict or not
pub data Reader : Type 0 where
  request : Version → Bool → Reader
  configuration : Version → Bool → Reader

pub data SerialCall : Type 0 where
  resetting : SerialCall
  sending : List ℕ → SerialCall
  ending : Reader → SerialCall

-- what a call answers
pub data SerialResult : Type 0 where
  begun : SerialResult
  part : PartResult → SerialResult
  join_request : RequestRead → SerialResult
  update : ConfigurationRead → SerialResult

-- what the caller has in hand between two calls
pub record Held : Type 0 where
  pub state : SerialState
  pub store : List ℕ

abbrev pub decision_on : Held → ℕ → PartDecision
decision_on h n = decision_of h.state (length h.store) n

-- one whole reading of a payload
abbrev pub whole_read : Reader → List ℕ → SerialResult
whole_read (request v strict) p = join_request (read_request_by v (head_by strict) p)
whole_read (configuration v strict) p = update (read_configuration_by v (head_by strict) p)

abbrev pub end_told : Reader → Held → SerialResult
end_told (request v strict) h = join_request (request_end (read_request_by v (head_by strict)) h.state h.store).read
end_told (configuration v strict) h = update (configuration_end (read_configuration_by v (head_by strict)) h.state h.store).read

abbrev pub told : SerialCall → Held → SerialResult
told resetting h = begun
told (sending p) h = part (part_answer (decision_on h (length p)) h.state (length p))
told (ending r) h = end_told r h

abbrev pub left : SerialCall → Held → Held
left resetting h = record { state = empty_state; store = h.store }
left (sending p) h = record {
  state = (part_answer (decision_on h (length p)) h.state (length p)).state;
  store = part_store (decision_on h (length p)) h.state.arrived p h.store;
}
left (ending r) h = record { state = end_state (decision_on h 0) h.state; store = h.store }

abbrev pub answers : List SerialCall → Held → List SerialResult
answers [] h = []
answers (c ∷ cs) h = told c h ∷ answers cs (left c h)

abbrev pub left_by : List SerialCall → Held → Held
left_by [] h = h
left_by (c ∷ cs) h = left_by cs (left c h)

-- ---- a payload cut into parts
abbrev pub sent : List (List ℕ) → Held → Held
sent [] h = h
sent (p ∷ ps) h = sent ps (left (sending p) h)

abbrev pub joined : List (List ℕ) → List ℕ
joined [] = []
joined (p ∷ ps) = p ++ joined ps

abbrev pub sendings : List (List ℕ) → List SerialCall
sendings [] = []
sendings (p ∷ ps) = sending p ∷ sendings ps

-- ---- the verdict of an answer
abbrev pub verdict_in : SerialResult → Verdict
verdict_in begun = Ok tt
verdict_in (part a) = a.verdict
verdict_in (join_request r) = r.verdict
verdict_in (update r) = r.verdict

abbrev pub verdicts : List SerialResult → List Verdict
verdicts [] = []
verdicts (t ∷ ts) = verdict_in t ∷ verdicts ts

-- ---- how many bytes the accepted parts had, counted from the calls and what they were answered
abbrev pub if_accepted : Verdict → ℕ → ℕ
if_accepted (Ok tt) n = n
if_accepted (Err k) n = 0

abbrev pub taken_by : SerialCall → SerialResult → ℕ
taken_by resetting t = 0
taken_by (sending p) t = if_accepted (verdict_in t) (length p)
taken_by (ending r) t = 0

abbrev pub taken_in : List SerialCall → Held → ℕ
taken_in [] h = 0
taken_in (c ∷ cs) h = taken_by c (told c h) + taken_in cs (left c h)

-- ---- whether a part was LONG, told in the same way
abbrev pub says_long : Verdict → Bool
says_long v = eqb (verdict_number v) (verdict_number (Err Long))

abbrev pub long_part : SerialCall → SerialResult → Bool
long_part resetting t = false
long_part (sending p) t = says_long (verdict_in t)
long_part (ending r) t = false

abbrev pub long_part_in : List SerialCall → Held → Bool
long_part_in [] h = false
long_part_in (c ∷ cs) h = long_part c (told c h) || long_part_in cs (left c h)
