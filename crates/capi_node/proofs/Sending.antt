-- What is sent is the slot at the index that was found; what is received and what a report does is the key sets' own answer.
use Rattle.std.specs.Prelude.{Result, Ok, Err}
use Rattle.refusal.specs.declared.Refusal.{Refusal}
use Prim.Native.Nat.{ℕ, ◌+◌, ◌<◌, ◌≤◌}
use mathlib.Core.Bool.{Bool, true, false, cond, ◌&&◌}
use mathlib.Core.List.{List}
use mathlib.Core.Option.{Option, none, some}
use mathlib.Core.Path.{◌≡◌, refl, ap, sym, subst, ◌∙◌}
use borrow.Author.Tests.{eq-eqb, ne_eqb, le-leb, lt-leb, lt-ltb}
use lib.ListN.{length, drop, set, replicate}
use Rattle.image.specs.Effects.{on_accept}
use Rattle.image.proofs.Lent.{hands-unfit, hands_none, hands-told}
use Rattle.image.specs.Part.{AllBytes, RoundTrips, is_image}
use Rattle.key_image.specs.Key.{counted_set_part}
use Rattle.lemmas.specs.logic.Tests.{never}
use Rattle.link_key_counters.specs.Counters.{take_counter, first_serving}
use Rattle.node.specs.Frames.{sending, sent_by, unsent, receive, verified, reported, reported_by}
use Rattle.node.specs.Node.{keyed}
use Rattle.node.specs.Range.{valid}
use Rattle.node.specs.declared.frames.SendResult.{SendResult}
use Rattle.node.specs.declared.frames.VerifyResult.{VerifyResult}
use Rattle.node.specs.declared.node.Node.{Node}
use Rattle.node_image.specs.Answers.{frame_key_image}
use Rattle.node_image.specs.Change.{recounted}
use Rattle.node_image.specs.ChangeLemmas.{stands}
use Rattle.node_image.specs.Node.{sets_part, node_image}
use Rattle.node_image.specs.NodeLemmas.{node_at_lem}
use Rattle.node_key_sets.specs.Frames as sets
use Rattle.node_key_sets.specs.Frames.{Effect, with_key, without_key, switched, effect, receiving_key}
use Rattle.node_key_sets.specs.Frames.{verified_in, change_verdict, has_switched}
use Rattle.node_key_sets.specs.declared.frames.Change.{Change}
use Rattle.node_key_sets.specs.declared.frames.Change.TheVariants as change
use Rattle.node_key_sets.specs.declared.frames.KeyAnswer.{KeyAnswer}
use Rattle.node_key_sets.specs.declared.sets.KeySets.{KeySets}
use Rattle.refusal.specs.Verdict.{verdict_number}
use Rattle.refusal.specs.declared.Refusal.TheVariants as refusal
use Rattle.capi_node.specs.Calls.{node_in, change_in, ReceivesIn, SendsIn}
use Rattle.link_key_counters.specs.Counters.{Slot}
use Rattle.std.specs.declared.option.Option.{Option as Index}
use Rattle.std.specs.declared.option.Option.TheVariants.{None, Some}
use Rattle.capi_node.specs.Slots.{key_at, counter_at, slot_at, slot_found}
use Rattle.capi_node.proofs.Ranged.{out_of_range, judged, image-so, valid-so}

-- no index was found
pub none-found : (s : List ℕ) (r : Index ℕ) {o : Option Slot} → o ≡ slot_found s r → ((i : ℕ) → ¬ (r ≡ Some i)) → o ≡ none
none-found s None e f = e
none-found s (Some i) e f = absurd (f i refl)

-- the set that was pending is not active
pub not-switched : (c : Change) → ¬ (c ≡ change.Switched) → has_switched (Ok c) ≡ false
not-switched change.Switched h = absurd (h refl)
not-switched change.Kept h = refl

module _ (s : List ℕ) where
  sets-so : sets_part.get (drop 29 s) ≡ (node_in s).sets
  sets-so = ap (λ (m : Node). m.sets) (node_at_lem s)

  -- ---- sending
  module _ (type : ℕ) (w : List ℕ) where
    pub send-unfit : ¬ (length w ≡ 33) → SendsIn type s w 13 s w
    send-unfit h = record { gives = hands-unfit 33 (is_image node_image s) _ _ w h; node = rw (ne_eqb (length w) 33 h) }

    abbrev sent : SendResult
    sent = sending (node_in s) type

    -- the call by what it does to the node in the image
    sends : {r : ℕ} {s' w' : List ℕ} (x : SendResult) → length w ≡ 33 → is_image node_image s ≡ true → sent ≡ x
        → r ≡ verdict_number x.answer.verdict → s' ≡ on_accept x.answer.verdict s (node_image.put x.node)
        → w' ≡ on_accept x.answer.verdict (replicate 33 0) (frame_key_image.put (x.answer.key, x.counter)) → SendsIn type s w r s' w'
    sends x h image e f g i =
        record {
          gives =
              hands-told 33 (is_image node_image s) sent.answer.verdict (frame_key_image.put (sent.answer.key, sent.counter)) w h image
              (f ∙ sym (ap (λ (y : SendResult). verdict_number y.answer.verdict) e))
              (i ∙ sym (ap (λ (y : SendResult). on_accept y.answer.verdict (replicate 33 0)
              (frame_key_image.put (y.answer.key, y.counter))) e));
          node =
              rw (eq-eqb (length w) 33 h, image)
              (g ∙ sym (ap (λ (y : SendResult). on_accept y.answer.verdict s (node_image.put y.node)) e));
        }

    module _ (h : length w ≡ 33) {w' : List ℕ} (z : w' ≡ replicate (length w) 0) where
      zeros : w' ≡ replicate 33 0
      zeros = z ∙ ap (λ (n : ℕ). replicate n 0) h

      send-out : (a b : Bool) → is_image node_image s ≡ a → valid (node_in s) ≡ b → (a && b) ≡ false → SendsIn type s w 13 s w'
      unfolding sending
      send-out true true e f g = never true refl g
      send-out true false e f g = sends (unsent (node_in s)) h e (rw f) refl refl zeros
      send-out false b e f g =
          record {
            gives = hands_none 33 (is_image node_image s) _ _ w h e z;
            node = rw (eq-eqb (length w) 33 h, e);
          }

      pub send-none : judged s ≡ false → SendsIn type s w 13 s w'
      send-none e = send-out (is_image node_image s) (valid (node_in s)) refl refl e

      module _ (e : judged s ≡ true) where
        pub send-type : 1 < type → SendsIn type s w 13 s w'
        unfolding sending sets.sending
        send-type g =
            sends (sent_by (node_in s) (sets.unsent refusal.Range (node_in s).sets)) h (image-so s e) (rw (valid-so s e, lt-leb type 1 g))
            refl refl zeros

        pub send-silent : type ≤ 1 → first_serving type (counted_set_part.get (drop 29 s)) ≡ none → SendsIn type s w 14 s w'
        unfolding sending sets.sending take_counter
        send-silent g f =
            let first : first_serving type (node_in s).sets.active ≡ none =
            ap (λ (m : Node). first_serving type m.sets.active) (sym (node_at_lem s)) ∙ f in
            sends (sent_by (node_in s) (sets.unsent refusal.Silent (node_in s).sets)) h (image-so s e)
            (rw (valid-so s e, le-leb type 1 g, first)) refl refl zeros

    module _ (h : length w ≡ 33) (e : judged s ≡ true) (g : type ≤ 1) (i : ℕ)
        (f : first_serving type (counted_set_part.get (drop 29 s)) ≡ slot_at s i)
        (l : i < 8) where
      pub send-key : {s' w' : List ℕ}
          → s' ≡ node_image.put (recounted (node_in s) (set (node_in s).sets.active.counters i (counter_at s i + 1)))
          → w' ≡ frame_key_image.put (key_at s i, counter_at s i) → SendsIn type s w 0 s' w'
      unfolding sending sets.sending take_counter
      send-key p q =
          let first : first_serving type (node_in s).sets.active ≡ some (record { place = i; key = key_at s i; counter = counter_at s i }) =
          ap (λ (m : Node). first_serving type m.sets.active) (sym (node_at_lem s)) ∙ f ∙ rw (lt-ltb i 8 l) in
          sends
          (record {
            answer = with_key (key_at s i);
            counter = counter_at s i;
            node = recounted (node_in s) (set (node_in s).sets.active.counters i (counter_at s i + 1));
          })
          h (image-so s e) (rw (valid-so s e, le-leb type 1 g, first)) refl p q

  -- ---- receiving
  module _ (type identifier : ℕ) (w : List ℕ) where
    abbrev answer : KeyAnswer
    answer = receive (node_in s) type identifier

    pub receive-unfit : ¬ (length w ≡ 33) → ReceivesIn type identifier s w 13 w
    receive-unfit h = hands-unfit 33 (is_image node_image s) _ _ w h

    receives : {r : ℕ} {w' : List ℕ} (x : KeyAnswer) → length w ≡ 33 → is_image node_image s ≡ true → answer ≡ x
        → r ≡ verdict_number x.verdict → w' ≡ on_accept x.verdict (replicate 33 0) (frame_key_image.put (x.key, 0))
        → ReceivesIn type identifier s w r w'
    receives x h image e f i =
        hands-told 33 (is_image node_image s) answer.verdict (frame_key_image.put (answer.key, 0)) w h image
        (f ∙ sym (ap (λ (y : KeyAnswer). verdict_number y.verdict) e))
        (i ∙ sym (ap (λ (y : KeyAnswer). on_accept y.verdict (replicate 33 0) (frame_key_image.put (y.key, 0))) e))

    module _ (h : length w ≡ 33) where
      receive-out : {w' : List ℕ} (a b : Bool) → is_image node_image s ≡ a → valid (node_in s) ≡ b → (a && b) ≡ false
          → w' ≡ replicate (length w) 0
          → ReceivesIn type identifier s w 13 w'
      unfolding receive
      receive-out true true e f g z = never true refl g
      receive-out true false e f g z =
          receives (without_key refusal.Range) h e (rw f) refl (z ∙ ap (λ (n : ℕ). replicate n 0) h)
      receive-out false b e f g z = hands_none 33 (is_image node_image s) _ _ w h e z

      pub receive-none : {w' : List ℕ} → judged s ≡ false → w' ≡ replicate (length w) 0 → ReceivesIn type identifier s w 13 w'
      receive-none e z = receive-out (is_image node_image s) (valid (node_in s)) refl refl e z

      pub receive-key : {r : ℕ} {w' : List ℕ} (x : KeyAnswer) → judged s ≡ true
          → x ≡ receiving_key (sets_part.get (drop 29 s)) type identifier
          → r ≡ verdict_number x.verdict → w' ≡ on_accept x.verdict (replicate 33 0) (frame_key_image.put (x.key, 0))
          → ReceivesIn type identifier s w r w'
      unfolding receive
      receive-key x e f g i =
          receives x h (image-so s e)
          (rw (valid-so s e) (sym (f ∙ ap (λ (k : KeySets). receiving_key k type identifier) sets-so))) g i

  -- ---- the verified report
  module _ (type identifier : ℕ) where
    pub verified-none : judged s ≡ false → Err refusal.Range ≡ change_in s type identifier
    unfolding verified
    verified-none e =
        out_of_range (λ (x : VerifyResult). x.change) (is_image node_image s) (valid (node_in s)) _
        (reported (Err refusal.Range) (node_in s)) e

    reported-so : (n : Node) → valid n ≡ true → verified n type identifier ≡ reported_by n (verified_in n.sets type identifier)
    unfolding verified
    reported-so n v = rw v

    module _ (e : judged s ≡ true) (r : Result Change Refusal)
        (f : verified_in (sets_part.get (drop 29 s)) type identifier
        ≡ effect r (cond (has_switched r) (switched (sets_part.get (drop 29 s))) (sets_part.get (drop 29 s)))) where
      abbrev after : KeySets → Effect
      after x = effect r (cond (has_switched r) (switched x) x)

      effect-so : verified_in (node_in s).sets type identifier ≡ after (node_in s).sets
      effect-so = subst (λ (x : KeySets). verified_in x type identifier ≡ after x) sets-so f

      report-so : verified (node_in s) type identifier
          ≡ reported r (keyed (node_in s) (cond (has_switched r) (switched (node_in s).sets) (node_in s).sets))
      report-so = reported-so (node_in s) (valid-so s e) ∙ ap (reported_by (node_in s)) effect-so

      pub verified-change : r ≡ change_in s type identifier
      verified-change = rw (image-so s e) (sym (ap (λ (x : VerifyResult). x.change) report-so))

      switched-accepted : (c : Result Change Refusal) → has_switched c ≡ true → (x y : List ℕ) → y ≡ on_accept (change_verdict c) x y
      switched-accepted (Err k) h x y = never false h refl
      switched-accepted (Ok change.Switched) h x y = refl
      switched-accepted (Ok change.Kept) h x y = never false h refl

      kept_either : (c : Result Change Refusal) (x y : List ℕ) → x ≡ y → x ≡ on_accept (change_verdict c) x y
      kept_either (Err k) x y h = refl
      kept_either (Ok change.Switched) x y h = h
      kept_either (Ok change.Kept) x y h = h

      pub verified-switched : {s' : List ℕ} → has_switched r ≡ true → s' ≡ node_image.put (keyed (node_in s) (switched (node_in s).sets))
          → s' ≡ on_accept (change_verdict r) s (node_image.put (verified (node_in s) type identifier).node)
      verified-switched h g = rw (report-so, h) (g ∙ switched-accepted r h s _)

      pub verified-kept : RoundTrips node_image → AllBytes s → has_switched r ≡ false
          → s ≡ on_accept (change_verdict r) s (node_image.put (verified (node_in s) type identifier).node)
      verified-kept l b h = rw (report-so, h) (kept_either r s _ (stands l s b (image-so s e)))
