-- Each clause of a turn goes by the answers of its sender and its receiver;
-- the receiver's answer to the report is what `AnswersSay` says of it.
use Rattle.std.specs.Prelude.{Result, Ok, Err}
use Rattle.refusal.specs.declared.Refusal.{Refusal}
use Prim.Native.Nat.{ℕ}
use mathlib.Core.Path.{◌≡◌, refl, sym, ◌∙◌, ap}
use mathlib.Core.Bool.{Bool, true, false, cond, not, ◌&&◌}
use Rattle.lemmas.specs.logic.Tests.{never}
use Rattle.link_key.specs.Key.{same_key}
use Rattle.link_key.specs.set.KeySet.{has}
use Rattle.node_key_sets.specs.Frames as sets
use Rattle.node_key_sets.specs.declared.frames.Change.{Change}
use Rattle.node_key_sets.specs.declared.frames.Change.TheVariants as change
use Rattle.node.specs.Frames.{send, after_send, verified}
use Rattle.node.specs.Node.{active_of}
use Rattle.node.specs.declared.node.Node.{Node}
use Rattle.node_laws.specs.Answers.{AnswersSay}
use Rattle.network.specs.Answers.{sent_key, found, TurnAnswers}
use Rattle.network_turn.specs.Turn.{turned, answer_of, told, judged, turn, answer_number, was_verified, has_switched}
use Rattle.network_turn.specs.declared.answer.Answer.TheVariants.{Failed}

-- an answer to the report that is not refused: the active set kept, h, or switched
none-refused :
    (c : Result Change Refusal) (h : Bool) → sets.has_switched c ≡ not h → sets.has_kept c ≡ h →
    (answer_number (answer_of c) ≡ 0) × (was_verified (answer_of c) ≡ true)
none-refused (Err j) h p q = never (not h) (ap not (sym q)) (sym p)
none-refused (Ok change.Switched) h p q = (refl, refl)
none-refused (Ok change.Kept) h p q = (refl, refl)

same-switched : (c : Result Change Refusal) → has_switched (answer_of c) ≡ sets.has_switched c
same-switched (Err j) = refl
same-switched (Ok change.Switched) = refl
same-switched (Ok change.Kept) = refl

module _ (A : AnswersSay) (a b : Node) (type : ℕ) (e : (send a type).verdict ≡ Ok tt) (f : (found a b type).verdict ≡ Ok tt) where
  abbrev id : ℕ
  id = (sent_key a b type).identifier

  abbrev active : Bool
  active = has id (active_of b)

  abbrev told-change : Result Change Refusal
  told-change = (verified b type id).change

  has-switched : sets.has_switched told-change ≡ not active
  has-switched = A.has-switched b type id ∙ rw f

  has_kept_lem : sets.has_kept told-change ≡ active
  has_kept_lem = A.has_kept_lem b type id ∙ rw f

  abbrev equal : Bool
  equal = same_key (sent_key a b type) (found a b type).key

  turn_is : turn a b type ≡ cond equal (told (after_send a type) b (verified b type id)) (turned (after_send a type) b (Ok Failed))
  unfolding turn judged
  turn_is = rw (e, f)

  by-keys :
      (x : Bool) →
      (answer_number (cond x (told (after_send a type) b (verified b type id)) (turned (after_send a type) b (Ok Failed))).answer ≡ 0)
      × (was_verified (cond x (told (after_send a type) b (verified b type id)) (turned (after_send a type) b (Ok Failed))).answer ≡ x)
      × (has_switched (cond x (told (after_send a type) b (verified b type id)) (turned (after_send a type) b (Ok Failed))).answer
      ≡ (x && not active))
  by-keys false = (refl, refl, refl)
  by-keys true =
      let n = none-refused told-change active has-switched has_kept_lem in
      (n.0, n.1, same-switched told-change ∙ has-switched)

pub turns-say : AnswersSay → (sender receiver : Node) (type : ℕ) → TurnAnswers sender receiver type
unfolding turn
turns-say A a b type = record {
  sender-refused = λ k e. rw e;
  receiver-refused = λ k e f. rw (e, f);
  no-refusal = λ e f. rw (turn_is A a b type e f) (by-keys A a b type e f (equal A a b type e f)).0;
  verified = λ e f. rw (turn_is A a b type e f) (by-keys A a b type e f (equal A a b type e f)).1;
  switched = λ e f. rw (turn_is A a b type e f) (by-keys A a b type e f (equal A a b type e f)).2;
}
