-- A payload that arrives in parts: what is kept beside the lent store, and what a part, an end and a reset come to.
use Rattle.std.specs.Prelude.{ℕ, ◌+◌, ◌≡◌, Bool, true, false, cond, not, ◌&&◌, ◌||◌, List, ◌++◌, leb, ltb, length, take, drop, Ok, Err}
use Rattle.refusal.specs.Refusal.{number_of}
use Rattle.refusal.specs.declared.Refusal.{Refusal}
use Rattle.refusal.specs.declared.Refusal.TheVariants as refusal
use Rattle.cojp.specs.Configuration.{refuse_configuration}
use Rattle.cojp.specs.Request.{refuse_request}
use Rattle.cojp.specs.declared.configuration.ConfigurationRead.{ConfigurationRead}
use Rattle.cojp.specs.declared.request.RequestRead.{RequestRead}
use Rattle.cojp_serial.specs.declared.state.SerialState.{SerialState}
use Rattle.cojp_serial.specs.declared.state.PartDecision.{PartDecision}
use Rattle.cojp_serial.specs.declared.state.PartDecision.TheVariants.{Outside, Overrun, Ended, Open}
use Rattle.cojp_serial.specs.declared.configuration.ConfigurationEnd.{ConfigurationEnd}
use Rattle.cojp_serial.specs.declared.request.RequestEnd.{RequestEnd}
use Rattle.cojp_serial.specs.declared.parts.PartResult.{PartResult}

abbrev pub empty_state : SerialState
empty_state = record { arrived = 0; overrun = false; ended = false }

abbrev pub overran : SerialState → SerialState
overran a = record { arrived = a.arrived; overrun = true; ended = a.ended }

abbrev pub end_marked : SerialState → SerialState
end_marked a = record { arrived = a.arrived; overrun = a.overrun; ended = true }

abbrev pub grown : SerialState → ℕ → SerialState
grown a n = record { arrived = a.arrived + n; overrun = a.overrun; ended = a.ended }

-- ---- how a call with n bytes finds an arrival and a store of so many bytes: RANGE, LONG, PHASE, in this order. An end is a call with none
abbrev pub valid : SerialState → ℕ → Bool
valid a lent = leb 256 lent && leb a.arrived 256

abbrev pub passes : SerialState → ℕ → Bool
passes a n = a.overrun || ltb 256 (a.arrived + n)

unfoldable pub decision_of : SerialState → ℕ → ℕ → PartDecision
decision_of a lent n = cond (not (valid a lent)) Outside (cond (passes a n) Overrun (cond a.ended Ended Open))

-- the decision in the documents' numbers
abbrev pub decision_number : PartDecision → ℕ
decision_number Outside = number_of refusal.Range
decision_number Overrun = number_of refusal.Long
decision_number Ended = number_of refusal.Phase
decision_number Open = 0

-- ---- a part: its answer, and the store afterwards. Where it is LONG the overrun is marked, though the call is refused
abbrev pub refused_part : Refusal → SerialState → PartResult
refused_part k a = record { verdict = Err k; state = a }

abbrev pub part_answer : PartDecision → SerialState → ℕ → PartResult
part_answer Outside a n = refused_part refusal.Range a
part_answer Overrun a n = refused_part refusal.Long (overran a)
part_answer Ended a n = refused_part refusal.Phase a
part_answer Open a n = record { verdict = Ok tt; state = grown a n }

-- p stands behind the first n bytes of the store, and nothing else changes
abbrev pub placed : ℕ → List ℕ → List ℕ → List ℕ
placed n p store = take n store ++ (p ++ drop (n + length p) store)

abbrev pub part_store : PartDecision → ℕ → List ℕ → List ℕ → List ℕ
part_store Outside n p store = store
part_store Overrun n p store = store
part_store Ended n p store = store
part_store Open n p store = placed n p store

-- the part p, the store s before and t afterwards
pub record Parted (a : SerialState) (s p : List ℕ) (r : PartResult) (t : List ℕ) : Type 0 where
  pub says : r ≡ part_answer (decision_of a (length s) (length p)) a (length p)
  pub holds : t ≡ part_store (decision_of a (length s) (length p)) a.arrived p s

-- ---- an end: the reading gets the bytes that arrived and no others. Once it gets them the end is marked, even if it refuses them
abbrev pub end_read : {A : Type 0} → (Refusal → A) → (List ℕ → A) → PartDecision → List ℕ → A
end_read refuse reader Outside p = refuse refusal.Range
end_read refuse reader Overrun p = refuse refusal.Long
end_read refuse reader Ended p = refuse refusal.Phase
end_read refuse reader Open p = reader p

abbrev pub end_state : PartDecision → SerialState → SerialState
end_state Outside a = a
end_state Overrun a = a
end_state Ended a = a
end_state Open a = end_marked a

abbrev pub request_end : (List ℕ → RequestRead) → SerialState → List ℕ → RequestEnd
request_end reader a store = record {
  read = end_read refuse_request reader (decision_of a (length store) 0) (take a.arrived store);
  state = end_state (decision_of a (length store) 0) a;
}

abbrev pub configuration_end : (List ℕ → ConfigurationRead) → SerialState → List ℕ → ConfigurationEnd
configuration_end reader a store = record {
  read = end_read refuse_configuration reader (decision_of a (length store) 0) (take a.arrived store);
  state = end_state (decision_of a (length store) 0) a;
}
