-- What the code of a turn answers at each of its ends is what the definition says: one law for each end.
use Rattle.std.specs.Prelude.{Result, Ok, Err}
use Prim.Native.Nat.{ℕ}
use mathlib.Core.Path.{◌≡◌, sym, ◌∙◌, ap}
use mathlib.Core.Bool.{Bool, true, false}
use Rattle.refusal.specs.declared.Refusal.{Refusal}
use Rattle.link_key.specs.Key.{same_key}
use Rattle.link_key.specs.declared.Key.{Key}
use Rattle.node.specs.Frames.{sending, send, after_send, receive, verified}
use Rattle.node_key_sets.specs.declared.frames.Change.{Change}
use Rattle.node.specs.declared.frames.VerifyResult.{VerifyResult}
use Rattle.node.specs.declared.frames.SendResult.{SendResult}
use Rattle.node_key_sets.specs.declared.frames.KeyAnswer.{KeyAnswer}
use Rattle.node.specs.declared.node.Node.{Node}
use Rattle.network_turn.specs.Turn.{turned, answer_of, judged, receives, sent, turn}
use Rattle.network_turn.specs.declared.answer.Answer.{Answer}
use Rattle.network_turn.specs.declared.answer.Answer.TheVariants.{Failed}
use Rattle.network_turn.specs.declared.answer.TurnResult.{TurnResult}

pub answer-refused : (x : Result Change Refusal) (why : Refusal) → x ≡ Err why → Err why ≡ answer_of x
answer-refused x why e = rw e

module _ (a b : Node) (type : ℕ) where
  -- the radio: `same` is what comparing the keys answered
  pub radio-failed : (k l : Key) (same : Bool) → same ≡ same_key k l → same ≡ false → turned a b (Ok Failed) ≡ judged a b type k l
  unfolding judged
  radio-failed k l same e t = rw (sym e, t)

  pub radio-verified :
      (k l : Key) (same : Bool) (h : VerifyResult) (x : Result Answer Refusal) → same ≡ same_key k l → same ≡ true → h ≡ verified b type k.identifier →
      x ≡ answer_of h.change → turned a h.node x ≡ judged a b type k l
  unfolding judged
  radio-verified k l same h x e t v w = rw (sym e, t, sym v, w)

  -- the receiver, which answered `found`
  module _ (key : Key) (found : KeyAnswer) (e : found ≡ receive b type key.identifier) where
    pub receiver-refuses :
        (why : Refusal) → found.verdict ≡ Err why →
        turned a b (Err why) ≡ receives a b type key (receive b type key.identifier)
    receiver-refuses why v = rw (sym e, v)

    pub receiver-finds :
        (t : TurnResult) → found.verdict ≡ Ok tt → t ≡ judged a b type key found.key →
        t ≡ receives a b type key (receive b type key.identifier)
    receiver-finds t v w = rw (sym e, v) w

  -- the sender, which answered `x`
  module _ (x : SendResult) (e : x ≡ sending a type) where
    turn_is : sent x.node b type x.answer.verdict x.answer.key ≡ turn a b type
    unfolding turn send after_send
    turn_is = ap (λ (y : SendResult). sent y.node b type y.answer.verdict y.answer.key) e

    pub sender-refuses : (why : Refusal) → x.answer.verdict ≡ Err why → turned x.node b (Err why) ≡ turn a b type
    sender-refuses why v = rw v at turn_is

    pub sender-finds :
        (t : TurnResult) → x.answer.verdict ≡ Ok tt →
        t ≡ receives x.node b type x.answer.key (receive b type x.answer.key.identifier) → t ≡ turn a b type
    sender-finds t v w = w ∙ rw v at turn_is
