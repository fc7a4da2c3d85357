-- A turn from C goes the way of the network's turn: each call answers as the node's own, and the keys that it hands back are equal exactly
-- where their bytes are.
use Rattle.std.specs.Prelude.{Result, Ok, Err}
use Rattle.refusal.specs.declared.Refusal.{Refusal}
use Prim.Native.Nat.{ℕ}
use mathlib.Core.Path.{◌≡◌, refl, ap, sym, ◌∙◌, subst}
use mathlib.Core.Bool.{Bool, true, false}
use mathlib.Core.List.{List}
use native.Mathlib.Omega.{arith}
use lib.ListN.{replicate}
use Rattle.refusal.specs.Refusal.{Numbered}
use Rattle.refusal.specs.Verdict.{verdict_number}
use Rattle.refusal.specs.Verdict.{Verdict}
use Rattle.image.specs.Effects.{on_accept}
use Rattle.key_image.specs.Laws.{KeyImages}
use Rattle.link_key.specs.Key.{same_key}
use Rattle.link_key.specs.Laws.{SameKeyLaws}
use Rattle.link_key.specs.declared.Key.{Key}
use Rattle.node_key_sets.specs.Frames.{change_verdict}
use Rattle.node_key_sets.specs.declared.frames.Change.{Change}
use Rattle.node_key_sets.specs.declared.frames.Change.TheVariants as change
use Rattle.node.specs.Frames as frames
use Rattle.node.specs.Frames.{send, send_counter, after_send, receive}
use Rattle.node.specs.declared.node.Node.{Node}
use Rattle.node_image.specs.Answers.{frame_key_image}
use Rattle.node_laws.specs.Calls.{sending, receiving, reporting, change_object, perform}
use Rattle.node_calls.specs.Results.{value_of}
use Rattle.node_call_laws.specs.Fits.{CallsFit}
use Rattle.network_turn.specs.Turn.{turn, judged, received, sent, answer_of, answer_number}
use Rattle.network_turn.specs.declared.answer.TurnResult.{TurnResult}
use Rattle.pothatch_laws.specs.Node.{NodeOutput, Called, NodeRuns}
use Rattle.network_call_laws.specs.Network.{answer_code}
use Rattle.network_call_laws.specs.Turn.{identifier_in, key_in, Accepted, Refused, Played, not-sent, not-received, failed, verified}
use Rattle.network_call_laws.proofs.Boards.{Holds, makes}
use Rattle.network_call_laws.proofs.Keys.{identifier-in, same_bytes, same_key_lem}

-- the turn came to t
pub record Came (t : TurnResult) (r c : ℕ) (s' w' : List ℕ) : Type 0 where
  pub number : r ≡ answer_number t.answer
  pub code : c ≡ answer_code t.answer
  pub sender : Holds t.sender s'
  pub receiver : Holds t.receiver w'

-- ---- what a verdict and a change come to
verdict-accepted : Numbered → (v : Verdict) {r : ℕ} → r ≡ verdict_number v → r ≡ 0 → v ≡ Ok tt
verdict-accepted numbers (Ok tt) e f = refl
verdict-accepted numbers (Err k) e f = absurd (let l = numbers.least k in let z = sym e ∙ f in omega (arith, l, z))

change-number : (h : Result Change Refusal) → verdict_number (change_verdict h) ≡ answer_number (answer_of h)
change-number (Err k) = refl
change-number (Ok change.Switched) = refl
change-number (Ok change.Kept) = refl

change-code : (h : Result Change Refusal) → value_of (change_object h) ≡ answer_code (answer_of h)
change-code (Err k) = refl
change-code (Ok change.Switched) = refl
change-code (Ok change.Kept) = refl

module _ (a m : Node) (type : ℕ) {s' w : List ℕ} (sender : Holds a s') (receiver : Holds m w) where
  -- a refusal ends the turn
  send-refused : (v : Verdict) (k : Key) {r : ℕ} → r ≡ verdict_number v → (r ≡ 0 → ⊥) → Came (sent a m type v k) r 0 s' w
  send-refused (Ok tt) k e f = absurd (f e)
  send-refused (Err why) k e f = record { number = e; code = refl; sender = sender; receiver = receiver }

  receive-refused : (v : Verdict) (k l : Key) {r : ℕ} → r ≡ verdict_number v → (r ≡ 0 → ⊥) → Came (received a m type k v l) r 0 s' w
  receive-refused (Ok tt) k l e f = absurd (f e)
  receive-refused (Err why) k l e f = record { number = e; code = refl; sender = sender; receiver = receiver }

  -- the frame failed
  judged-failed : (k l : Key) (b : Bool) → same_key k l ≡ b → (b ≡ true → ⊥) → Came (judged a m type k l) 0 0 s' w
  unfolding judged
  judged-failed k l true e f = absurd (f refl)
  judged-failed k l false e f = rw e (record { number = refl; code = refl; sender = sender; receiver = receiver })

  -- or was verified
  judged-verified : (k l : Key) {r c : ℕ} {w' : List ℕ} → same_key k l ≡ true
      → r ≡ verdict_number (change_verdict (frames.verified m type k.identifier).change)
      → c ≡ value_of (change_object (frames.verified m type k.identifier).change)
      → Holds (frames.verified m type k.identifier).node w'
      → Came (judged a m type k l) r c s' w'
  unfolding judged
  judged-verified k l e n v h =
      let x = (frames.verified m type k.identifier).change in
      rw e (record { number = n ∙ change-number x; code = v ∙ change-code x; sender = sender; receiver = h })

-- ---- the sender was asked and answered
pub record Sent (n : Node) (type : ℕ) (a : NodeOutput) (s' : List ℕ) : Type 0 where
  pub accepted : (send n type).verdict ≡ Ok tt
  pub struct : a.struct ≡ frame_key_image.put ((send n type).key, send_counter n type)
  pub fits : frame_key_image.Fit ((send n type).key, send_counter n type)
  holds : Holds (after_send n type) s'

module _ (numbers : Numbered) (law : NodeRuns) (fit : CallsFit) (n : Node) (type : ℕ) where
  pub send-number : (s : List ℕ) (a : NodeOutput) (s' : List ℕ) → Holds n s → Called (sending type) s a s'
      → a.number ≡ verdict_number (send n type).verdict
  unfolding perform
  send-number s a s' h d = ap (λ (t : NodeOutput). t.number) (makes law fit (sending type) n s a s' h d).told

  pub sends : (s : List ℕ) (a : NodeOutput) (s' : List ℕ) → Holds n s → Accepted (sending type) s a s' → Sent n type a s'
  unfolding perform
  sends s a s' h d =
      let p = makes law fit (sending type) n s a s' h d.called in
      let e = verdict-accepted numbers (send n type).verdict (send-number s a s' h d.called) d.accepted in
      record {
        accepted = e;
        struct =
            ap (λ (t : NodeOutput). t.struct) p.told
            ∙ ap (λ (v : Verdict). on_accept v (replicate 33 0) (frame_key_image.put ((send n type).key, send_counter n type))) e;
        fits = fit.answer-fits (sending type) n d.called.callable h.fits;
        holds = p.holds;
      }

module _ (numbers : Numbered) (images : KeyImages) (same : SameKeyLaws) (law : NodeRuns) (fit : CallsFit) (n m : Node) (type : ℕ) where
  abbrev key : Key
  key = (send n type).key

  abbrev found : Key
  found = (receive m type key.identifier).key

  -- by the identifier of its key, which stands in the struct
  by-identifier : {a : NodeOutput} {s' : List ℕ} → Sent n type a s' → identifier_in a.struct ≡ key.identifier
  by-identifier x = ap identifier_in x.struct ∙ identifier-in key (send_counter n type)

  -- ---- so was the receiver
  record Received (b : NodeOutput) : Type 0 where
    accepted : (receive m type key.identifier).verdict ≡ Ok tt
    struct : b.struct ≡ frame_key_image.put (found, 0)
    fits : frame_key_image.Fit (found, 0)

  receives : (w : List ℕ) (b : NodeOutput) → Holds m w → Accepted (receiving type key.identifier) w b w → Received b
  unfolding perform
  receives w b h d =
      let c = receiving type key.identifier in
      let p = makes law fit c m w b w h d.called in
      let e =
      verdict-accepted numbers (receive m type key.identifier).verdict (ap (λ (t : NodeOutput). t.number) p.told) d.accepted
      in
      record {
        accepted = e;
        struct = ap (λ (t : NodeOutput). t.struct) p.told
            ∙ ap (λ (v : Verdict). on_accept v (replicate 33 0) (frame_key_image.put (found, 0))) e;
        fits = fit.answer-fits c m d.called.callable h.fits;
      }

  -- ---- the network's turn, by what was answered
  turn-sent : {a : NodeOutput} {s' : List ℕ} → Sent n type a s'
      → turn n m type ≡ received (after_send n type) m type key (receive m type key.identifier).verdict found
  unfolding turn
  turn-sent x = ap (λ (v : Verdict). sent (after_send n type) m type v key) x.accepted

  turn-received : {a b : NodeOutput} {s' : List ℕ} → Sent n type a s' → Received b
      → turn n m type ≡ judged (after_send n type) m type key found
  turn-received x y = turn-sent x ∙ ap (λ (v : Verdict). received (after_send n type) m type key v found) y.accepted

  same-structs : {a b : NodeOutput} {s' : List ℕ} → Sent n type a s' → Received b → key_in a.struct ≡ key_in b.struct
      → same_key key found ≡ true
  same-structs x y e =
      same_bytes images same key found (send_counter n type) 0 x.fits y.fits
      (ap key_in (sym x.struct) ∙ e ∙ ap key_in y.struct)

  same_keys : {a b : NodeOutput} {s' : List ℕ} → Sent n type a s' → Received b → same_key key found ≡ true
      → key_in a.struct ≡ key_in b.struct
  same_keys x y e =
      ap key_in x.struct
      ∙ same_key_lem images same key found (send_counter n type) 0 x.fits y.fits e
      ∙ ap key_in (sym y.struct)

  abbrev Turned : ℕ → ℕ → List ℕ → List ℕ → Type 0
  Turned r c s' w' = Came (turn n m type) r c s' w'

  module _ (s w : List ℕ) (sender : Holds n s) (receiver : Holds m w) where
    from-refused : (a : NodeOutput) (s' : List ℕ) → Refused (sending type) s a s' → Turned a.number 0 s' w
    unfolding turn perform
    from-refused a s' d =
        let p = makes law fit (sending type) n s a s' sender d.called in
        send-refused (after_send n type) m type p.holds receiver (send n type).verdict key
        (send-number numbers law fit n type s a s' sender d.called)
        d.refused

    to-refused : (a b : NodeOutput) (s' : List ℕ) → Sent n type a s' → Refused (receiving type key.identifier) w b w
        → Turned b.number 0 s' w
    unfolding perform
    to-refused a b s' x d =
        let p = makes law fit (receiving type key.identifier) m w b w receiver d.called in
        subst (λ (t : TurnResult). Came t b.number 0 s' w) (sym (turn-sent x))
        (receive-refused (after_send n type) m type x.holds receiver (receive m type key.identifier).verdict key found
        (ap (λ (t : NodeOutput). t.number) p.told) d.refused)

    to-other : (a b : NodeOutput) (s' : List ℕ) → Sent n type a s' → Received b → (key_in a.struct ≡ key_in b.struct → ⊥)
        → Turned 0 0 s' w
    to-other a b s' x y f =
        subst (λ (t : TurnResult). Came t 0 0 s' w) (sym (turn-received x y))
        (judged-failed (after_send n type) m type x.holds receiver key found (same_key key found) refl (λ e. f (same_keys x y e)))

    to_same : (a b d : NodeOutput) (s' w' : List ℕ) → Sent n type a s' → Received b → key_in a.struct ≡ key_in b.struct
        → Called (reporting type key.identifier) w d w' → Turned d.number d.value s' w'
    unfolding perform
    to_same a b d s' w' x y e h =
        let p = makes law fit (reporting type key.identifier) m w d w' receiver h in
        subst (λ (t : TurnResult). Came t d.number d.value s' w') (sym (turn-received x y))
        (judged-verified (after_send n type) m type x.holds receiver key found (same-structs x y e)
        (ap (λ (t : NodeOutput). t.number) p.told) (ap (λ (t : NodeOutput). t.value) p.told) p.holds)

    pub plays : (r c : ℕ) (s' w' : List ℕ) → Played type s w r c s' w' → Turned r c s' w'
    plays r c s' w' (not-sent {a = a} d) = from-refused a s' d
    plays r c s' w' (not-received {a = a} {b = b} d e) =
        let x = sends numbers law fit n type s a s' sender d in
        to-refused a b s' x (subst (λ (i : ℕ). Refused (receiving type i) w b w) (by-identifier x) e)
    plays r c s' w' (failed {a = a} {b = b} d e f) =
        let x = sends numbers law fit n type s a s' sender d in
        to-other a b s' x (receives w b receiver (subst (λ (i : ℕ). Accepted (receiving type i) w b w) (by-identifier x) e)) f
    plays r c s' w' (verified {a = a} {b = b} {d = t} d e f h) =
        let x = sends numbers law fit n type s a s' sender d in
        to_same a b t s' w' x (receives w b receiver (subst (λ (i : ℕ). Accepted (receiving type i) w b w) (by-identifier x) e)) f
        (subst (λ (i : ℕ). Called (reporting type i) w t w') (by-identifier x) h)
