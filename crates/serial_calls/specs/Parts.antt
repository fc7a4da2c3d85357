-- A reset and a part from C: the arrival stands in its image, the bytes that arrived in a lent store.
use Rattle.std.specs.Prelude.{ℕ, cond, List, ◌≡◌, eqb, length, Ok}
use Rattle.refusal.specs.Verdict.{verdict_number}
use Rattle.refusal.specs.Verdict.{Verdict}
use Rattle.image.specs.Effects.{on_accept, checked_first}
use Rattle.image.specs.Part.{is_image}
use Rattle.cojp_serial.specs.State.{empty_state, decision_of, part_answer, part_store}
use Rattle.cojp_serial.specs.declared.state.PartDecision.{PartDecision}
use Rattle.cojp_serial.specs.declared.parts.PartResult.{PartResult}
use Rattle.serial_calls.specs.Serial.{serial_image}

-- ---- a reset asks for a struct of its size and nothing else: nothing of what stood there is seen
abbrev pub reset_verdict : List ℕ → Verdict
reset_verdict s = checked_first (eqb (length s) 6) (Ok tt)

-- the number r was answered, and the image s holds s' afterwards
pub record Resets (s : List ℕ) (r : ℕ) (s' : List ℕ) : Type 0 where
  pub number : r ≡ verdict_number (reset_verdict s)
  pub serial : s' ≡ on_accept (reset_verdict s) s (serial_image.put empty_state)

-- ---- a part p goes by the arrival in the image s; m is the store
abbrev pub part_decision : List ℕ → List ℕ → List ℕ → PartDecision
part_decision s m p = decision_of (serial_image.get s) (length m) (length p)

abbrev pub part_in : List ℕ → List ℕ → List ℕ → PartResult
part_in s m p = part_answer (part_decision s m p) (serial_image.get s) (length p)

-- the image afterwards is that of the arrival that the part leaves, also where it is refused: an overrun stays marked
pub record Parts (s m p : List ℕ) (r : ℕ) (s' m' : List ℕ) : Type 0 where
  pub number : r ≡ verdict_number (checked_first (is_image serial_image s) (part_in s m p).verdict)
  pub serial : s' ≡ cond (is_image serial_image s) (serial_image.put (part_in s m p).state) s
  pub store : m' ≡ cond (is_image serial_image s) (part_store (part_decision s m p) (serial_image.get s).arrived p m) m
