-- A turn that is refused or fails leaves the receiver, since a refused report of a verified frame does;
-- refused by the sender, it leaves both.
use Rattle.std.specs.Prelude.{Result, Ok, Err}
use Prim.Native.Nat.{ℕ}
use native.Mathlib.Omega.{arith}
use mathlib.Core.Path.{◌≡◌, refl, ap}
use Rattle.refusal.specs.declared.Refusal.{Refusal}
use Rattle.node.specs.Frames.{after_send, verified}
use Rattle.node_key_sets.specs.Frames.{change_verdict}
use Rattle.node_key_sets.specs.declared.frames.Change.{Change}
use Rattle.node_key_sets.specs.declared.frames.Change.TheVariants as change
use Rattle.node_laws.specs.Laws.{NodeLaws}
use Rattle.node.specs.declared.node.Node.{Node}
use Rattle.network_turn.specs.Turn.{answer_of, turn}
use Rattle.network.specs.Demand1.{TurnDemand1}
use Rattle.network_turn.specs.declared.answer.Answer.TheVariants.{Failed}
use Rattle.network.proofs.Turns.{frame_id, turn-ends}

-- an answer that the receiver's is, is a refusal only where that is
refused-by : (c : Result Change Refusal) (k : Refusal) → answer_of c ≡ Err k → change_verdict c ≡ Err k
refused-by (Err j) k e = ap Err (cc)
refused-by (Ok change.Switched) k e = absurd (let z : ◌≡◌ {A = ℕ} 0 1 = cc in omega arith)
refused-by (Ok change.Kept) k e = absurd (let z : ◌≡◌ {A = ℕ} 0 1 = cc in omega arith)

never-failed : {A : Type 0} (c : Result Change Refusal) → answer_of c ≡ Ok Failed → A
never-failed (Err j) e = absurd (let z : ◌≡◌ {A = ℕ} 0 1 = cc in omega arith)
never-failed (Ok change.Switched) e = absurd (let z : ◌≡◌ {A = ℕ} 0 1 = cc in omega arith)
never-failed (Ok change.Kept) e = absurd (let z : ◌≡◌ {A = ℕ} 0 1 = cc in omega arith)

module _ (L : NodeLaws) (a b : Node) (type : ℕ) where
  refused-leaves : (k : Refusal) → (turn a b type).answer ≡ Err k → (turn a b type).receiver ≡ b
  refused-leaves k =
      turn-ends a b type (λ t. t.answer ≡ Err k → t.receiver ≡ b) (λ x e. refl)
      (λ s e. L.report-refused b type (frame_id a type) k (refused-by (verified b type (frame_id a type)).change k e))

  failed-leaves : (turn a b type).answer ≡ Ok Failed → (turn a b type).receiver ≡ b
  failed-leaves =
      turn-ends a b type (λ t. t.answer ≡ Ok Failed → t.receiver ≡ b) (λ x e. refl)
      (λ s e. never-failed (verified b type (frame_id a type)).change e)

  sender-stays : (turn a b type).sender ≡ after_send a type
  sender-stays = turn-ends a b type (λ t. t.sender ≡ after_send a type) (λ x. refl) (λ s. refl)

pub turn-demand1 : NodeLaws → TurnDemand1
unfolding turn
turn-demand1 L = record {
  sender-refused = λ a b type k e. (rw e (L.send-refused a type k e), rw e, rw e);
  sender-after = sender-stays L;
  refused = refused-leaves L;
  failed = failed-leaves L;
}
