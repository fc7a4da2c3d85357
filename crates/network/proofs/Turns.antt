-- What a turn does to its two nodes, by the node's laws: the sender keeps its keys; the receiver keeps its keys, or its pending set becomes
-- active by a pending key with the identifier of the key that was sent.
use Rattle.std.specs.Prelude.{Result, Ok, Err}
use Rattle.refusal.specs.declared.Refusal.{Refusal}
use Prim.Native.Nat.{ℕ}
use mathlib.Core.Path.{◌≡◌, refl}
use mathlib.Core.Bool.{Bool, true, false, cond}
use mathlib.Core.Logic.{◌⊎◌, inl, inr, ⊎_elim}
use mathlib.Core.List.{Memᴰ}
use Rattle.refusal.specs.Verdict.{Verdict}
use Rattle.link_key.specs.Key.{same_key}
use Rattle.link_key.specs.declared.Key.{Key}
use Rattle.node.specs.Node.{active_of, pending_of}
use Rattle.node.specs.Range.{Valid}
use Rattle.node.specs.Frames.{send, after_send, receive, verified}
use Rattle.node_laws.specs.Laws.{KeysStay, Switched, Sends, Switching, NodeLaws, Without}
use Rattle.node.specs.declared.node.Node.{Node}
use Rattle.network_turn.specs.Turn.{turned, told, judged, received, sent, turn}
use Rattle.network_turn.specs.declared.answer.Answer.{Answer}
use Rattle.network_turn.specs.declared.answer.Answer.TheVariants.{Failed}
use Rattle.network_turn.specs.declared.answer.TurnResult.{TurnResult}

pub stay-self : (n : Node) → KeysStay n n
stay-self n = record { active = refl; pending = refl; role = refl; valid = λ v. v }

-- the identifier in the frame
abbrev pub frame_id : Node → ℕ → ℕ
frame_id a type = (send a type).key.identifier

-- the receiver b after a turn with the sender a
pub record Moved (a b : Node) (type : ℕ) (m : Node) : Type 0 where
  pub sends : Sends a type
  pub by : Switching b type (frame_id a type)
  pub switched : Switched b m

abbrev pub Receives : Node → Node → ℕ → Node → Type 0
Receives a b type m = KeysStay b m ⊎ Moved a b type m

-- a turn ends with the receiver as it was, or the send was answered and the receiver is told that the frame is verified
module _ (a b : Node) (type : ℕ) (P : TurnResult → Type 0) (same : (x : Result Answer Refusal) → P (turned (after_send a type) b x))
    (verifies : (send a type).verdict ≡ Ok tt → P (told (after_send a type) b (verified b type (frame_id a type)))) where
  at-radio : (e : (send a type).verdict ≡ Ok tt) (l : Key) → P (judged (after_send a type) b type (send a type).key l)
  unfolding judged
  at-radio e l = go (same_key (send a type).key l)
    where
      go : (x : Bool) → P (cond x (told (after_send a type) b (verified b type (frame_id a type))) (turned (after_send a type) b (Ok Failed)))
      go true = verifies e
      go false = same (Ok Failed)

  at-receiver :
      (e : (send a type).verdict ≡ Ok tt) (v : Verdict) (l : Key) → P (received (after_send a type) b type (send a type).key v l)
  at-receiver e (Err k) l = same (Err k)
  at-receiver e (Ok tt) l = at-radio e l

  at-sender : (v : Verdict) → (send a type).verdict ≡ v → P (sent (after_send a type) b type v (send a type).key)
  at-sender (Err k) e = same (Err k)
  at-sender (Ok tt) e = at-receiver e (receive b type (frame_id a type)).verdict (receive b type (frame_id a type)).key

  pub turn-ends : P (turn a b type)
  unfolding turn
  turn-ends = at-sender (send a type).verdict refl

module _ (L : NodeLaws) (a b : Node) (type : ℕ) where
  pub sender-stays : KeysStay a (turn a b type).sender
  sender-stays = turn-ends a b type (λ t. KeysStay a t.sender) (λ _. L.send-stays a type) (λ _. L.send-stays a type)

  pub receiver-either : Receives a b type (turn a b type).receiver
  receiver-either = turn-ends a b type (λ t. Receives a b type t.receiver) (λ _. inl (stay-self b)) told-either
    where
      told-either : (send a type).verdict ≡ Ok tt → Receives a b type (verified b type (frame_id a type)).node
      told-either e =
          ⊎_elim inl (λ s. inr (record { sends = L.send-from a type e; by = s.0; switched = s.1 }))
          (L.verified-either b type (frame_id a type))

  pub receiver-role : (turn a b type).receiver.role ≡ b.role
  receiver-role = ⊎_elim (λ q. q.role) (λ d. d.switched.role) receiver-either

  -- a frame under a pending key that covers the type, where no active key has its identifier
  pub receiver-switches :
      Valid b → Sends a type → Without (frame_id a type) (active_of b) → Memᴰ (send a type).key (pending_of b) →
      Switched b (turn a b type).receiver
  unfolding turn judged
  receiver-switches v s none m =
      rw (s.accepted, L.receive-pending b type (send a type).key v s.covering none m, L.same-key-self (send a type).key)
      (L.verified-switches b type (frame_id a type) v
      (record { key = (send a type).key; identified = refl; member = m; covering = s.covering; absent = none }))
