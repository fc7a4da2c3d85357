-- Demand 3, where some nodes may lack the new set. Before the border router accepts it, the border router and the nodes that lack it are
-- apart from it and all others wait with it pending: nothing moves, and nobody sends under it. Then the border router has switched, and
-- each round carries the set one hop further along nodes that wait for it. Where every node had it, that is demand 3.
use Prim.Native.Nat.{ℕ, ◌<◌}
use native.Mathlib.Decide.{ℕ_discrete}
use native.Mathlib.Omega.{arith}
use mathlib.Core.Path.{◌≡◌, refl, ◌∙◌, ap}
use mathlib.Core.Bool.{Bool, true, false, cond}
use mathlib.Core.Logic.{inl, ⊎_elim}
use mathlib.Core.List.Memᴰ
use mathlib.Core.List.{List, [], ◌∷◌, Memᴰ}
use lib.Dec.{eqb}
use borrow.Author.Tests.{eq-eqb, ne_eqb}
use lib.ListN.{length}
use Rattle.lemmas.specs.logic.Tests.{never}
use Rattle.link_key.specs.set.KeySet.{Covers}
use Rattle.link_key.specs.declared.Key.{Key}
use Rattle.node.specs.Node.{active_of, pending_of}
use Rattle.node.specs.Range.{Valid}
use Rattle.node.specs.Delivery.{deliver}
use Rattle.node_laws.specs.Calls.{starting, polling, delivering, asking, sending, receiving, reporting}
use Rattle.node_laws.specs.Laws.{CanSend, Takes, NodeLaws}
use Rattle.node_attempt.specs.declared.delivery.Delivery.{Delivery}
use Rattle.node_key_sets.specs.declared.frames.KeyAnswer.{KeyAnswer}
use Rattle.node.specs.declared.node.Node.{Node}
use Rattle.network.specs.Network.{Network, node_at}
use Rattle.network.specs.Events.{Event, turning, calling, step, run, AdmissibleEvent, Admissible, Throughout, answers, Under}
use Rattle.network.specs.AmidUpdates.{EventAmidUpdates, AdmissibleAmidUpdates, RekeyAmidUpdates}
use Rattle.network.specs.Rounds.{Links, Neighbours, Towards, Hops, here, hop, AllLinked, Rounds}
use Rattle.network.specs.Demand3.{Supposed, NoneUsedUp, NoneSendsUnder, Rekeyed, handed, Demand3}
use Rattle.network.specs.PartialRekey.{SomeKeyUsable, SupposedSome, Followed, RekeyAmong, RekeyUnder, PartialRekey, all, FullCase}
use Rattle.network.proofs.Receiving.{apart, old, new, Quiet, Carries, IsNew, Is, none_apart, kind-valid, quiet-sends}
use Rattle.network.proofs.Flood.{Kinds, with, flows, far}
use Rattle.network.proofs.Places.{All, at_other, Are, are-with, size-with, size-run, throughout-map}
use Rattle.network.proofs.Places.{at-end, run-role, step-quiet, run-quiet, run-flows}
use Rattle.network.proofs.Places.{UnmovedFrom, run-unmoved}

-- the kinds at the start, and after the step
abbrev at_start : (ℕ → Bool) → ℕ → Kinds
at_start had border = with (λ (k : ℕ). cond (had k) old apart) border apart

abbrev at_step : (ℕ → Bool) → ℕ → Kinds
at_step had border = with (at_start had border) border new

start-quiet : (had : ℕ → Bool) (border k : ℕ) → Quiet (at_start had border k)
start-quiet had border k = go (eqb k border) (had k)
  where
    go : (x y : Bool) → Quiet (cond x apart (cond y old apart))
    go true y = tt
    go false true = tt
    go false false = tt

step-carries : (had : ℕ → Bool) (border k : ℕ) → had k ≡ true → Carries (at_step had border k)
step-carries had border k e = rw e (go (eqb k border))
  where
    go : (x : Bool) → Carries (cond x new (cond x apart old))
    go true = tt
    go false = tt

module _ (L : NodeLaws) where
  -- ---- before: no node sends under the set
  module _ (ks : List Key) (kinds : Kinds) (quiet : (k : ℕ) → Quiet (kinds k)) where
    answers-none :
        (net : Network) (es : List Event) → AdmissibleAmidUpdates net es → Are ks kinds net →
        (a : KeyAnswer) → Memᴰ a (answers net es) → Under ks a → ⊥
    unfolding answers AdmissibleAmidUpdates EventAmidUpdates
    answers-none net [] h s a m = absurd (Memᴰ.not-nil m)
    answers-none net (turning i j type ∷ es) h s a (Memᴰ.head q) =
        rw q (quiet-sends L ks (node_at net i) type (kinds i) (quiet i) (s i h.0.0))
    answers-none net (turning i j type ∷ es) h s a (Memᴰ.tail m) =
        answers-none (step net (turning i j type)) es h.1 (step-quiet L ks kinds quiet net (turning i j type) h.0 s) a m
    answers-none net (calling i c ∷ es) h s a m =
        answers-none (step net (calling i c)) es h.1 (step-quiet L ks kinds quiet net (calling i c) h.0 s) a m

    none-sends : (net : Network) (es : List Event) → AdmissibleAmidUpdates net es → Are ks kinds net → NoneSendsUnder ks net es
    none-sends net es h s = record {
      in_list = answers-none net es h s;
      at-end = λ i type l.
          quiet-sends L ks (node_at (run net es) i) type (kinds i) (quiet i)
          (run-quiet L ks kinds quiet net es h s i (rw (size-run net es) l));
    }

  -- ---- after: a node that has switched is as demand 3 says
  rekeyed : (ks : List Key) (type : ℕ) (n : Node) → (active_of n ≡ ks → CanSend n type) → IsNew ks n → Rekeyed ks type n
  rekeyed ks type n left w =
      let s = L.can-send n type w.valid (left w.active) in
      record {
        active = w.active;
        none-pending = w.pending;
        no-old-key =
            λ k m. ⊎_elim (λ a. rw w.active at a) (λ b. absurd (Memᴰ.not-nil (rw w.pending at b)))
            (Memᴰ.append_cases (active_of n) m);
        sends = record { accepted = s.accepted; member = rw w.active at s.member };
      }

  module _ (had : ℕ → Bool) (net : Network) (border : ℕ) (ks : List Key) (type : ℕ) (g : SupposedSome had net border ks type) where
    start-are : Are ks (at_start had border) net
    start-are k l = go (ℕ_discrete k border)
      where
        other : (x : Bool) → had k ≡ x → (node_at net k).role ≡ 0 → Is ks (cond x old apart) (node_at net k)
        other true e o =
            let p = g.pending k l o e in
            record { valid = g.valid k l; active = rw p at (L.valid-apart (node_at net k) (g.valid k l)); pending = p }
        other false e o = let a = g.lacking k l o e in record { valid = g.valid k l; active = a.active; pending = a.pending }

        go : Dec (k ≡ border) → Is ks (at_start had border k) (node_at net k)
        go (yes e) =
            let v = g.valid border g.inside in
            rw (eq-eqb k border e, e)
            (record {
              valid = v;
              active = g.former-apart;
              pending = rw (L.border-none (node_at net border) v g.is-border) (none_apart ks);
            })
        go (no f) = rw (ne_eqb k border f) (other (had k) refl (g.ordinary k l f))

    -- the border router is handed the set in a network where all kinds are as at the start
    module _ (out : Network) (same : length out ≡ length net) (are : Are ks (at_start had border) out) (role : (node_at out border).role ≡ 1)
        (unmoved : All (UnmovedFrom net) out) (delivery : Delivery) (time : ℕ) (payload : List ℕ)
        (takes : Takes delivery (node_at out border) time payload ks) where
      abbrev next : Network
      next = handed out border delivery time payload

      border-valid : Valid (node_at out border)
      border-valid = kind-valid ks (node_at out border) (at_start had border border) (are border (rw same g.inside))

      step-are : Are ks (at_step had border) next
      step-are =
          let d = L.border-takes delivery (node_at out border) time payload ks border-valid role takes in
          are-with ks (at_start had border) out border (deliver delivery (node_at out border) time payload).node are new
          (record { valid = d.valid; active = d.active; pending = d.pending })

      size : length next ≡ length net
      size = size-with out border (deliver delivery (node_at out border) time payload).node ∙ same

      module _ (links : Links) (h : ℕ) (es : List Event) (come : AdmissibleAmidUpdates next es) (linked : AllLinked links type es)
          (rounds : Rounds links type h es) (left : Throughout (SomeKeyUsable ks type) next es) where
        reached : (i : ℕ) → i < length net → Hops (Towards links had) h border i → Rekeyed ks type (node_at (run next es) i)
        reached i l hops =
            let inside : i < length (run next es) = rw (size-run next es ∙ size) l in
            rekeyed ks type (node_at (run next es) i) (at-end (SomeKeyUsable ks type) next es left i inside)
            (rw switched at (run-flows L ks links type (at_step had border) next es come linked left step-are i inside))
          where
            switched : flows (at_step had border) es i ≡ new
            switched =
                far links type (Towards links had) (λ x y n. n.0) (at_step had border) rounds hops
                (λ x y n. step-carries had border y n.1)
                (rw (eq-eqb border border refl))

        -- a node that lacked the set is not the border router: the step leaves it, and the lists leave its active set
        lacked :
            (i : ℕ) → i < length net → (node_at net i).role ≡ 0 → had i ≡ false → pending_of (node_at net i) ≡ [] →
            active_of (node_at (run next es) i) ≡ active_of (node_at net i)
        lacked i l o f e =
            let first = unmoved i (rw same l) e in
            let inside : i < length (run next es) = rw (size-run next es ∙ size) l in
            let second = run-unmoved L next next es come (λ k _ p. record { active = refl; pending = p }) i inside
            (ap pending_of stayed ∙ first.pending) in
            second.active ∙ ap active_of stayed ∙ first.active
          where
            other : i ≡ border → ⊥
            other q = let r = g.is-border in let p = rw q at o in omega (arith, r, p)

            stayed : node_at next i ≡ node_at out i
            stayed = at_other out border (deliver delivery (node_at out border) time payload).node i other

        followed : Followed had net border ks type links h (run next es)
        followed = record { reached = reached; lacked = lacked }

  while-one-left : RekeyAmong AdmissibleAmidUpdates SomeKeyUsable
  unfolding RekeyAmong
  while-one-left had net border ks type g before come =
      let quiet = start-quiet had border in
      let start = start-are had net border ks type g in (
        none-sends ks (at_start had border) quiet net before come start,
        λ left.
            followed had net border ks type g (run net before) (size-run net before)
            (run-quiet L ks (at_start had border) quiet net before come start)
            (run-role L net before border g.inside ∙ g.is-border)
            (run-unmoved L net net before come (λ k l e. record { active = refl; pending = e })),
      )

  -- where none of the covering keys is used up, one is left
  none-used-left : (ks : List Key) (type : ℕ) → Covers ks type → (net : Network) → NoneUsedUp ks type net → SomeKeyUsable ks type net
  none-used-left ks type covering net unspent i l e = L.covers-can (node_at net i) type (rw e covering) (rw e (unspent i l))

  pub some-lack : (May : Network → List Event → Type 0) → RekeyAmong May SomeKeyUsable → RekeyAmong May NoneUsedUp
  unfolding RekeyAmong
  some-lack May claim had net border ks type g before come =
      let left = throughout-map (NoneUsedUp ks type) (SomeKeyUsable ks type) (none-used-left ks type g.covering) in
      let said = claim had net border ks type g before come in (
        said.0,
        λ unspent delivery time payload takes links h after comes linked rounds unspent-after.
            said.1 (left net before unspent) delivery time payload takes links h after comes linked rounds (left _ after unspent-after),
      )

-- ---- the events of demand 3 are among these
more-events : (net : Network) (e : Event) → AdmissibleEvent net e → EventAmidUpdates net e
unfolding AdmissibleEvent EventAmidUpdates
more-events net (turning i j type) h = h
more-events net (calling i (starting time timeout d)) h = h
more-events net (calling i (polling time)) h = h
more-events net (calling i (delivering delivery time payload)) h = (h.0, inl h.1)
more-events net (calling i (asking time)) h = h
more-events net (calling i (sending type)) h = h
more-events net (calling i (receiving type identifier)) h = h
more-events net (calling i (reporting type identifier)) h = h

more-lists : (net : Network) (es : List Event) → Admissible net es → AdmissibleAmidUpdates net es
unfolding Admissible AdmissibleAmidUpdates
more-lists net [] h = tt
more-lists net (e ∷ es) h = (more-events net e h.0, more-lists (step net e) es h.1)

pub amid-updates : NodeLaws → RekeyAmidUpdates
amid-updates L = record {
  unspent = some-lack L AdmissibleAmidUpdates (while-one-left L);
  usable = while-one-left L;
  more = more-lists;
}

-- a claim about more lists holds of fewer
pub fewer-lists : (Unused : List Key → ℕ → Network → Type 0) → RekeyAmong AdmissibleAmidUpdates Unused → RekeyUnder Unused
unfolding RekeyAmong
fewer-lists Unused claim had net border ks type g before come =
    let said = claim had net border ks type g before (more-lists net before come) in (
      said.0,
      λ left delivery time payload takes links h after comes.
          said.1 left delivery time payload takes links h after (more-lists _ after comes),
    )

-- ---- where every ordinary node had the set
hops-all : (links : Links) {h i k : ℕ} → Hops (Neighbours links) h i k → Hops (Towards links all) h i k
hops-all links here = here
hops-all links (hop n rest) = hop (n, refl) (hops-all links rest)

hops-back : (links : Links) {h i k : ℕ} → Hops (Towards links all) h i k → Hops (Neighbours links) h i k
hops-back links here = here
hops-back links (hop n rest) = hop n.0 (hops-back links rest)

supposed-all : {net : Network} {border : ℕ} {ks : List Key} {type : ℕ} → Supposed net border ks type → SupposedSome all net border ks type
supposed-all g = record {
  valid = g.valid;
  inside = g.inside;
  is-border = g.is-border;
  ordinary = g.ordinary;
  covering = g.covering;
  pending = λ i l o e. g.pending i l o;
  lacking = λ i l o e. never true refl e;
  active-at-none = g.active-at-none;
  former-apart = g.former-apart;
}

supposed-back : {net : Network} {border : ℕ} {ks : List Key} {type : ℕ} → SupposedSome all net border ks type → Supposed net border ks type
supposed-back g = record {
  valid = g.valid;
  inside = g.inside;
  is-border = g.is-border;
  ordinary = g.ordinary;
  covering = g.covering;
  pending = λ i l o. g.pending i l o refl;
  active-at-none = g.active-at-none;
  former-apart = g.former-apart;
}

pub where-all-had : FullCase
where-all-had = record { supposed = supposed-all; supposed-back = supposed-back; hops = hops-all; hops-back = hops-back }

pub demand3 : PartialRekey → Demand3
unfolding Demand3 RekeyAmong
demand3 claim net border ks type g before come =
    let said = claim all net border ks type (supposed-all g) before come in (
      said.0,
      λ unspent delivery time payload takes links h after comes linked rounds unspent-after i l hops.
          (said.1 unspent delivery time payload takes links h after comes linked rounds unspent-after).reached i l (hops-all links hops),
    )
