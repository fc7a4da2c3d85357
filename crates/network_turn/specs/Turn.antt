-- A turn: one node is asked to send a frame type, and another receives it with the identifier of the key answered.
use Rattle.refusal.specs.declared.Refusal.{Refusal}
use Rattle.std.specs.Prelude.{ℕ, Bool, true, false, cond, Result, Ok, Err}
use Rattle.refusal.specs.Refusal.{number_of}
use Rattle.refusal.specs.Verdict.{Verdict}
use Rattle.link_key.specs.Key.{same_key}
use Rattle.link_key.specs.declared.Key.{Key}
use Rattle.node.specs.Frames.{send, after_send, receive, verified}
use Rattle.node_key_sets.specs.declared.frames.Change.{Change}
use Rattle.node_key_sets.specs.declared.frames.Change.TheVariants as change
use Rattle.node.specs.declared.frames.VerifyResult.{VerifyResult}
use Rattle.node_key_sets.specs.declared.frames.KeyAnswer.{KeyAnswer}
use Rattle.node.specs.declared.node.Node.{Node}
use Rattle.network_turn.specs.declared.answer.Answer.{Answer}
use Rattle.network_turn.specs.declared.answer.Answer.TheVariants.{Failed, Kept, Switched}
use Rattle.network_turn.specs.declared.answer.TurnResult.{TurnResult}

abbrev pub turned : Node → Node → Result Answer Refusal → TurnResult
turned sender receiver answer = record { sender = sender; receiver = receiver; answer = answer }

-- what the receiver answers to the report of a verified frame
abbrev pub answer_of : Result Change Refusal → Result Answer Refusal
answer_of (Err k) = Err k
answer_of (Ok change.Switched) = Ok Switched
answer_of (Ok change.Kept) = Ok Kept

-- the receiver was told that the frame is verified: what the report made of it
abbrev pub told : Node → Node → VerifyResult → TurnResult
told sender receiver report = turned sender report.node (answer_of report.change)

-- the radio: a frame is verified exactly where the key sent with and the key found are equal; one that failed is no call
unfoldable pub judged : Node → Node → ℕ → Key → Key → TurnResult
judged sender receiver type sent found =
    cond (same_key sent found) (told sender receiver (verified receiver type sent.identifier)) (turned sender receiver (Ok Failed))

-- the receiver's answer; a refusal ends the turn
abbrev pub received : Node → Node → ℕ → Key → Verdict → Key → TurnResult
received sender receiver type sent (Err k) found = turned sender receiver (Err k)
received sender receiver type sent (Ok tt) found = judged sender receiver type sent found

abbrev pub receives : Node → Node → ℕ → Key → KeyAnswer → TurnResult
receives sender receiver type sent found = received sender receiver type sent found.verdict found.key

-- the sender's answer, with the sender after it was asked; a refusal ends the turn, and the receiver is not asked
abbrev pub sent : Node → Node → ℕ → Verdict → Key → TurnResult
sent sender receiver type (Err k) key = turned sender receiver (Err k)
sent sender receiver type (Ok tt) key = receives sender receiver type key (receive receiver type key.identifier)

unfoldable pub turn : Node → Node → ℕ → TurnResult
turn sender receiver type = sent (after_send sender type) receiver type (send sender type).verdict (send sender type).key

-- the answer in document 01's terms: the refusal's number, 0 where there is none;
-- whether the frame was verified, and whether the receiver switched
abbrev pub answer_number : Result Answer Refusal → ℕ
answer_number (Err k) = number_of k
answer_number (Ok Failed) = 0
answer_number (Ok Kept) = 0
answer_number (Ok Switched) = 0

abbrev pub was_verified : Result Answer Refusal → Bool
was_verified (Err k) = false
was_verified (Ok Failed) = false
was_verified (Ok Kept) = true
was_verified (Ok Switched) = true

abbrev pub has_switched : Result Answer Refusal → Bool
has_switched (Err k) = false
has_switched (Ok Failed) = false
has_switched (Ok Kept) = false
has_switched (Ok Switched) = true
