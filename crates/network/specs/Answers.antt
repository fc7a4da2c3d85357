-- What a turn's answer says in document 01's numbers and values: a refusal ends the turn with its number; else the frame was verified
-- exactly where the two keys found are equal, and the receiver switched exactly where its key was pending.
use Rattle.std.specs.Prelude.{ℕ, ◌≡◌, not, ◌&&◌, Ok, Err}
use Rattle.refusal.specs.Refusal.{number_of}
use Rattle.refusal.specs.declared.Refusal.{Refusal}
use Rattle.link_key.specs.Key.{same_key}
use Rattle.link_key.specs.declared.Key.{Key}
use Rattle.link_key.specs.set.KeySet.{has}
use Rattle.node.specs.Frames.{send, receive}
use Rattle.node.specs.Node.{active_of}
use Rattle.node.specs.declared.node.Node.{Node}
use Rattle.node_key_sets.specs.declared.frames.KeyAnswer.{KeyAnswer}
use Rattle.network_turn.specs.Turn.{turn, answer_number, was_verified, has_switched}

module _ (sender receiver : Node) (type : ℕ) where
  -- the key that the sender answers, and what the receiver answers to a frame with its identifier
  abbrev pub sent_key : Key
  sent_key = (send sender type).key

  abbrev pub found : KeyAnswer
  found = receive receiver type sent_key.identifier

pub record TurnAnswers (sender receiver : Node) (type : ℕ) : Type 0 where
  pub sender-refused : (k : Refusal) → (send sender type).verdict ≡ Err k → answer_number (turn sender receiver type).answer ≡ number_of k
  pub receiver-refused :
      (k : Refusal) → (send sender type).verdict ≡ Ok tt → (found sender receiver type).verdict ≡ Err k →
      answer_number (turn sender receiver type).answer ≡ number_of k
  -- a frame that failed is no refusal
  pub no-refusal :
      (send sender type).verdict ≡ Ok tt → (found sender receiver type).verdict ≡ Ok tt →
      answer_number (turn sender receiver type).answer ≡ 0
  -- verified exactly where the two keys are equal
  pub verified :
      (send sender type).verdict ≡ Ok tt → (found sender receiver type).verdict ≡ Ok tt →
      was_verified (turn sender receiver type).answer ≡ same_key (sent_key sender receiver type) (found sender receiver type).key
  -- switched where the receiver's key was pending: no active key has its identifier; else kept
  pub switched :
      (send sender type).verdict ≡ Ok tt → (found sender receiver type).verdict ≡ Ok tt →
      has_switched (turn sender receiver type).answer
      ≡ (same_key (sent_key sender receiver type) (found sender receiver type).key
      && not (has (sent_key sender receiver type).identifier (active_of receiver)))

abbrev pub EveryTurnAnswers : Type 0
EveryTurnAnswers = (sender receiver : Node) (type : ℕ) → TurnAnswers sender receiver type
