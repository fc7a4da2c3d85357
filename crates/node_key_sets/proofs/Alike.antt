-- Key sets with the same keys go to the same place: only their keys are looked at.
use mathlib.Core.Path.{◌≡◌, refl, sym, ap, ◌∙◌}
use mathlib.Core.Bool.{Bool, true, false}
use mathlib.Core.List.{List}
use Rattle.link_key.specs.set.KeySet.{keys_of, valid_set, same_keys, shares}
use Rattle.link_key.specs.declared.Key.{Key}
use Rattle.link_key.specs.declared.set.key_set.KeySet.{KeySet}
use lib.ListN.{replicate}
use Rattle.link_key_counters.specs.CounterLaws.{CounterLaws}
use Rattle.link_key_counters.specs.Counters.{slots_from, slots_of, kept_counters, inherit_counters}
use Rattle.link_key_counters.specs.declared.CountedSet.{CountedSet}
use Rattle.node_key_sets.specs.Sets.{active_in, pending_in, install}
use Rattle.node_key_sets.specs.declared.sets.KeySets.{KeySets}
use Rattle.node_key_sets.specs.declared.sets.InstallResult.{InstallResult}
use Rattle.node_key_sets.proofs.Valid.{place_by}

-- two placements that differ at most in places that are never looked at
abbrev SamePlace : InstallResult → InstallResult → Type 0
SamePlace p q =
    (p.verdict ≡ q.verdict) × (active_in p.sets ≡ active_in q.sets) × (pending_in p.sets ≡ pending_in q.sets)
    × (slots_of p.sets.active ≡ slots_of q.sets.active) × (slots_of p.sets.pending ≡ slots_of q.sets.pending)

module _ (C : CounterLaws) where
  -- a border node's new set: its own keys, and the counters that they keep
  abbrev after : KeySets → KeySet → CountedSet
  after s a = inherit_counters s.active a

  after-keys : (s : KeySets) (a b : KeySet) → keys_of a ≡ keys_of b → keys_of (after s a).set ≡ keys_of (after s b).set
  after-keys s a b e = rw (C.succeeded-is s.active a, C.succeeded-is s.active b) e

  same-slots : (s : KeySets) (a b : KeySet) → keys_of a ≡ keys_of b → slots_of (after s a) ≡ slots_of (after s b)
  same-slots s a b e =
      ap slots_of (C.succeeded-is s.active a)
      ∙ ap (λ (ks : List Key). slots_from 0 (kept_counters s.active ks) ks) e
      ∙ sym (ap slots_of (C.succeeded-is s.active b))

  place-alike :
      (s : KeySets) (a b : KeySet) (ok border same shared : Bool) → keys_of a ≡ keys_of b →
      SamePlace (place_by s a ok border same shared) (place_by s b ok border same shared)
  place-alike s a b false border same shared e = (refl, refl, refl, refl, refl)
  place-alike s a b true true same shared e = (refl, after-keys s a b e, refl, same-slots s a b e, refl)
  place-alike s a b true false true shared e = (refl, refl, refl, refl, refl)
  place-alike s a b true false false true e = (refl, refl, refl, refl, refl)
  place-alike s a b true false false false e = (refl, refl, e, refl, ap (λ (ks : List Key). slots_from 0 (replicate 8 0) ks) e)

  pub install-alike :
      (border : Bool) (s : KeySets) (a b : KeySet) → valid_set a ≡ valid_set b → keys_of a ≡ keys_of b →
      ((install border s a).verdict ≡ (install border s b).verdict)
      × (active_in (install border s a).sets ≡ active_in (install border s b).sets)
      × (pending_in (install border s a).sets ≡ pending_in (install border s b).sets)
      × (slots_of (install border s a).sets.active ≡ slots_of (install border s b).sets.active)
      × (slots_of (install border s a).sets.pending ≡ slots_of (install border s b).sets.pending)
  unfolding install
  install-alike border s a b ok e =
      rw (ok, ap (λ (ks : List Key). same_keys ks (active_in s)) e, ap (λ (ks : List Key). shares ks (active_in s)) e)
      (place-alike s a b (valid_set b) border (same_keys (keys_of b) (active_in s)) (shares (keys_of b) (active_in s)) e)
