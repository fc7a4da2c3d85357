-- The frames that were sent are the first of the reserved sendings, and a sending leaves the keys: so the law of rising counters speaks of
-- them.
use Prim.Native.Nat.{ℕ}
use mathlib.Core.Path.{◌≡◌, refl, sym, ap, subst, ◌∙◌}
use mathlib.Core.List.{List, [], ◌∷◌, ◌++◌}
use Rattle.link_key.specs.declared.Key.{Key}
use Rattle.link_key_counters.specs.history.Kept.{Holds}
use Rattle.node.specs.Node.{active_of, made}
use Rattle.node.specs.declared.node.Node.{Node}
use Rattle.node_laws.specs.Calls.{NodeCall, sending, perform}
use Rattle.node_laws.specs.Laws.{NodeLaws}
use Rattle.node_history_laws.specs.counters.Reserved.{sendings, CountersReserved}
use Rattle.node_history_laws.specs.counters.Rising.{after, Answers, Stays, CountersRise}

after-join : (n : Node) (xs ys : List NodeCall) → after n (xs ++ ys) ≡ after (after n xs) ys
after-join n [] ys = refl
after-join n (x ∷ xs) ys = after-join (perform x n).node xs ys

sendings-join : (n : Node) (ts us : List ℕ) → after n (sendings (ts ++ us)) ≡ after (after n (sendings ts)) (sendings us)
sendings-join n [] us = refl
sendings-join n (t ∷ ts) us = sendings-join (perform (sending t) n).node ts us

module _ (L : NodeLaws) where
  sent-active : (n : Node) (type : ℕ) → active_of (perform (sending type) n).node ≡ active_of n
  unfolding perform
  sent-active n type = (L.send-stays n type).active

  held_first : (k : Key) (n : Node) (cs : List NodeCall) → Stays k n cs → Holds k (active_of n)
  held_first k n [] h = h
  held_first k n (c ∷ cs) h = h.0

  -- a key that the node after the sendings has was there all the time
  back : (k : Key) (n : Node) (ts : List ℕ) (later : List NodeCall) → Stays k (after n (sendings ts)) later
      → Stays k n (sendings ts ++ later)
  back k n [] later h = h
  back k n (t ∷ ts) later h =
      let m = (perform (sending t) n).node in
      let rest = back k m ts later h in (
        subst (Holds k) (sent-active n t) (held_first k m (sendings ts ++ later) rest),
        rest,
      )

  pub counters-reserved : CountersRise → CountersReserved
  counters-reserved rise =
      record {
        higher = λ version role network before sent type left k counter a later s again l next b same.
            let fresh = (made version role network).node in
            let n = after fresh before in
            let running = after n (sendings sent) in
            let one = (perform (sending type) running).node in
            let e : after fresh (before ++ sendings sent) ≡ running = after-join fresh before (sendings sent) in
            let f : after n (sendings (sent ++ type ∷ left)) ≡ after one (sendings left) = sendings-join n sent (type ∷ left) in
            let g : after (perform (sending type) (after fresh (before ++ sendings sent))).node (sendings left ++ later)
            ≡ after (after n (sendings (sent ++ type ∷ left))) later =
            ap (λ (m : Node). after (perform (sending type) m).node (sendings left ++ later)) e
            ∙ after-join one (sendings left) later
            ∙ ap (λ (m : Node). after m later) (sym f) in
            rise.rises version role network (before ++ sendings sent) type k counter
            (subst (λ (m : Node). Answers m type k counter) (sym e) a)
            (sendings left ++ later)
            (subst (λ (m : Node). Stays k (perform (sending type) m).node (sendings left ++ later)) (sym e)
            (back k one left later (subst (λ (m : Node). Stays k m later) f s)))
            again l next
            (subst (λ (m : Node). Answers m again l next) (sym g) b)
            same;
      }
