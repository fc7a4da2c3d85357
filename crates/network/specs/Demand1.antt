-- Demand 1 for a turn: refused by the sender, both nodes are as they were; refused by the receiver or failed, the receiver is. The sender
-- is in every turn the node that sending left: its counter stays raised, whatever becomes of the frame (document 02, request 9).
use Rattle.std.specs.Prelude.{ℕ, ◌≡◌, Ok, Err}
use Rattle.refusal.specs.Refusal.{number_of}
use Rattle.refusal.specs.declared.Refusal.{Refusal}
use Rattle.node.specs.Frames.{send, after_send}
use Rattle.node.specs.declared.node.Node.{Node}
use Rattle.network_turn.specs.Turn.{turn, answer_number}
use Rattle.network_turn.specs.declared.answer.Answer.TheVariants.{Failed}

pub record TurnDemand1 : Type 0 where
  pub sender-refused :
      (sender receiver : Node) (type : ℕ) (k : Refusal) → (send sender type).verdict ≡ Err k →
      ((turn sender receiver type).sender ≡ sender)
      × ((turn sender receiver type).receiver ≡ receiver)
      × (answer_number (turn sender receiver type).answer ≡ number_of k)
  pub sender-after : (sender receiver : Node) (type : ℕ) → (turn sender receiver type).sender ≡ after_send sender type
  pub refused :
      (sender receiver : Node) (type : ℕ) (k : Refusal) → (turn sender receiver type).answer ≡ Err k →
      (turn sender receiver type).receiver ≡ receiver
  pub failed :
      (sender receiver : Node) (type : ℕ) → (turn sender receiver type).answer ≡ Ok Failed → (turn sender receiver type).receiver ≡ receiver
