-- What it says that two key sets are valid, part by part, and back; a switch and a new set leave valid sets.
use Rattle.std.specs.Prelude.{Ok}
use mathlib.Core.Path.{◌≡◌, refl, sym, ◌∙◌}
use mathlib.Core.Bool.{Bool, true, false, cond, not, ◌&&◌, ◌||◌, or-true, and-true, and-false}
use mathlib.Core.List.Memᴰ
use mathlib.Core.List.{List, [], Memᴰ}
use borrow.Author.Tests.{eqb-true, not-true}
use Rattle.refusal.specs.RefusalLemmas.{refused-not}
use Rattle.refusal.specs.declared.Refusal.TheVariants as refusal
use Rattle.link_key.specs.set.KeySet.{keys_of, valid_keys, valid_set, no_additional_infos, additional_info_allowed, same_keys, shares}
use Rattle.link_key.specs.declared.Key.{Key}
use Rattle.link_key.specs.declared.set.key_set.KeySet.{KeySet}
use Rattle.link_key.specs.set.KeyLaws.{KeyLaws}
use Rattle.link_key_counters.specs.CounterLaws.{CounterLaws}
use Rattle.link_key_counters.specs.Counters.{with_zero_counters, no_counted, inherit_counters}
use Rattle.link_key_counters.specs.declared.CountedSet.{CountedSet}
use Rattle.node_key_sets.specs.Sets.{active_in, pending_in, two_sets, is_none, none_or_valid, valid}
use Rattle.node_key_sets.specs.Sets.{plain_in, valid_as, unplaced, decide_install, install}
use Rattle.node_key_sets.specs.Frames.{switched}
use Rattle.node_key_sets.specs.declared.sets.KeySets.{KeySets}
use Rattle.node_key_sets.specs.declared.sets.InstallResult.{InstallResult}
use Rattle.lemmas.specs.logic.Tests.{both, both_left, both_right, never, first, second, third, fourth, all-four, then-so}

-- whether keys may be informed is asked of each set, or of both after all else
pub regrouped : (a b s t i p q : Bool) → ((a && (i || p)) && (b && (i || q)) && (s && t)) ≡ ((a && b && s && t) && (i || (p && q)))
regrouped false b s t i p q = refl
regrouped true false s t true p q = refl
regrouped true false s t false true q = refl
regrouped true false s t false false q = refl
regrouped true true s t true p q = sym (and-true (s && t))
regrouped true true s t false true true = sym (and-true (s && t))
regrouped true true s t false true false = sym (and-false (s && t))
regrouped true true s t false false q = sym (and-false (s && t))

module _ (border : Bool) (s : KeySets) where
  abbrev apart : Bool
  apart = not (shares (active_in s) (pending_in s))

  abbrev alone : Bool
  alone = (not border || is_none s.pending.set)

  module _ (e : valid border s ≡ true) where
    pub active-valid : none_or_valid s.active.set ≡ true
    unfolding valid
    active-valid = first (none_or_valid s.active.set) (none_or_valid s.pending.set) apart alone e

    pub pending-valid : none_or_valid s.pending.set ≡ true
    unfolding valid
    pending-valid = second (none_or_valid s.active.set) (none_or_valid s.pending.set) apart alone e

    pub sets-apart : shares (active_in s) (pending_in s) ≡ false
    unfolding valid
    sets-apart =
        not-true (shares (active_in s) (pending_in s)) (third (none_or_valid s.active.set) (none_or_valid s.pending.set) apart alone e)

    border-alone : border ≡ true → is_none s.pending.set ≡ true
    unfolding valid
    border-alone b =
        then-so border (is_none s.pending.set) (fourth (none_or_valid s.active.set) (none_or_valid s.pending.set) apart alone e) b

  pub valid-by :
      none_or_valid s.active.set ≡ true → none_or_valid s.pending.set ≡ true → shares (active_in s) (pending_in s) ≡ false →
      (not border || is_none s.pending.set) ≡ true → valid border s ≡ true
  unfolding valid
  valid-by a p d b = all-four (none_or_valid s.active.set) (none_or_valid s.pending.set) apart alone a p (rw d) b

-- sending: only a counter rises, and counters are not looked at
pub same-valid :
    (border : Bool) (s t : KeySets) → t.active.set ≡ s.active.set → t.pending ≡ s.pending → valid border s ≡ true
    → valid border t ≡ true
unfolding valid
same-valid border s t a p e = rw (a, p) e

-- ---- a new set
-- the answer, by whether the set is within its limits and by the three questions of its placing
abbrev pub place_by : KeySets → KeySet → Bool → Bool → Bool → Bool → InstallResult
place_by s set ok border equals shared = cond ok (decide_install s set border equals shared) (unplaced refusal.Range s)

pub border-installs :
    (s : KeySets) (set : KeySet) → (install true s set).verdict ≡ Ok tt →
    (install true s set).sets ≡ two_sets (inherit_counters s.active set) no_counted
unfolding install
border-installs s set = go (valid_set set)
  where
    go :
        (ok : Bool) → (place_by s set ok true false false).verdict ≡ Ok tt →
        (place_by s set ok true false false).sets ≡ two_sets (inherit_counters s.active set) no_counted
    go true e = refl
    go false e = refused-not refusal.Range e

-- ---- by the laws of keys
module _ (K : KeyLaws) where
  none-empty : (set : KeySet) → is_none set ≡ true → keys_of set ≡ []
  none-empty set e = K.keys-of-count-0 set (eqb-true set.count 0 e)

  -- one set and no other
  apart_none : (ks : List Key) → shares ks [] ≡ false
  apart_none ks = K.apart-shares ks [] (λ k l m i e. Memᴰ.not-nil i)

  -- nothing is shared with no set, and a border node may have it
  pub alone-apart :
      (border : Bool) (s : KeySets) → is_none s.pending.set ≡ true →
      true ≡ (not (shares (active_in s) (pending_in s)) && (not border || is_none s.pending.set))
  alone-apart border s e = rw (none-empty s.pending.set e, apart_none (active_in s), e, or-true (not border))

  pub border-empty : (border : Bool) (s : KeySets) → valid border s ≡ true → border ≡ true → pending_in s ≡ []
  border-empty border s e b = none-empty s.pending.set (border-alone border s e b)

  pub alone-valid : (border : Bool) (a : CountedSet) → none_or_valid a.set ≡ true → valid border (two_sets a no_counted) ≡ true
  alone-valid border a e = valid-by border (two_sets a no_counted) e refl (apart_none (keys_of a.set)) (or-true (not border))

  pub switched-valid : (border : Bool) (s : KeySets) → valid border s ≡ true → valid border (switched s) ≡ true
  switched-valid border s e = alone-valid border s.pending (pending-valid border s e)

  -- a set with a key in it is within the limits
  pub member-valid : (set : KeySet) (k : Key) → none_or_valid set ≡ true → Memᴰ k (keys_of set) → valid_keys (keys_of set) ≡ true
  member-valid set k e m = go (is_none set) refl
    where
      go : (b : Bool) → is_none set ≡ b → valid_keys (keys_of set) ≡ true
      go true p = absurd (Memᴰ.not-nil (rw (none-empty set p) at m))
      go false p = let q : valid_set set ≡ true = rw p at e in (K.valid-set set q).1

  module _ (C : CounterLaws) (s : KeySets) (set : KeySet) where
    set-valid : valid_set set ≡ true → none_or_valid set ≡ true
    set-valid ok = rw (ok, or-true (is_none set))

    place-valid :
        (ok border same shared : Bool) → valid border s ≡ true → valid_set set ≡ ok → shares (keys_of set) (active_in s) ≡ shared →
        valid border (place_by s set ok border same shared).sets ≡ true
    place-valid false border same shared e ok h = e
    place-valid true true same shared e ok h =
        alone-valid true (inherit_counters s.active set) (rw (C.succeeded-is s.active set) (set-valid ok))
    place-valid true false true shared e ok h = alone-valid false s.active (active-valid false s e)
    place-valid true false false true e ok h = e
    place-valid true false false false e ok h =
        valid-by false (two_sets s.active (with_zero_counters set)) (active-valid false s e) (set-valid ok)
        (K.shares-turned (active_in s) (keys_of set) ∙ h) refl

  pub install-valid :
      CounterLaws → (border : Bool) (s : KeySets) (set : KeySet) → valid border s ≡ true → valid border (install border s set).sets ≡ true
  unfolding install
  install-valid C border s set e =
      place-valid C s set (valid_set set) border (same_keys (keys_of set) (active_in s)) (shares (keys_of set) (active_in s)) e refl refl

-- ---- in a form in which keys may have additional information, or may not
module _ (allowed border : Bool) (s : KeySets) where
  pub as-valid : valid_as allowed border s ≡ true → valid border s ≡ true
  unfolding valid_as
  as-valid e = both_left (valid border s) (allowed || plain_in s) e

  pub as_plain : valid_as allowed border s ≡ true → (allowed || plain_in s) ≡ true
  unfolding valid_as
  as_plain e = both_right (valid border s) (allowed || plain_in s) e

  pub as_by : valid border s ≡ true → (allowed || plain_in s) ≡ true → valid_as allowed border s ≡ true
  unfolding valid_as
  as_by e f = both (valid border s) (allowed || plain_in s) e f

-- one of the two sets and no other, and the active one with a new one
first_plain : (i p q : Bool) → (i || (p && q)) ≡ true → (i || (p && true)) ≡ true
first_plain true p q e = refl
first_plain false true q e = refl
first_plain false false q e = e

second_plain : (i p q : Bool) → (i || (p && q)) ≡ true → (i || (q && true)) ≡ true
second_plain true p q e = refl
second_plain false true q e = rw (and-true q) e
second_plain false false q e = never false e refl

new-plain : (i p q r : Bool) → (i || (p && q)) ≡ true → (i || r) ≡ true → (i || (p && r)) ≡ true
new-plain true p q r e f = refl
new-plain false true q r e f = f
new-plain false false q r e f = e

module _ (allowed : Bool) (s : KeySets) (e : (allowed || plain_in s) ≡ true) where
  pub switched-plain : (allowed || plain_in (switched s)) ≡ true
  switched-plain = second_plain allowed (no_additional_infos (active_in s)) (no_additional_infos (pending_in s)) e

  module _ (C : CounterLaws) (set : KeySet) (f : additional_info_allowed allowed (keys_of set) ≡ true) where
    place-plain : (ok border equals shared : Bool) → (allowed || plain_in (place_by s set ok border equals shared).sets) ≡ true
    place-plain false border equals shared = e
    place-plain true true equals shared =
        rw (C.succeeded-is s.active set)
        (first_plain allowed (no_additional_infos (keys_of set)) true (rw (and-true (no_additional_infos (keys_of set))) f))
    place-plain true false true shared = first_plain allowed (no_additional_infos (active_in s)) (no_additional_infos (pending_in s)) e
    place-plain true false false true = e
    place-plain true false false false =
        new-plain allowed (no_additional_infos (active_in s)) (no_additional_infos (pending_in s)) (no_additional_infos (keys_of set)) e f

    pub install-plain : (border : Bool) → (allowed || plain_in (install border s set).sets) ≡ true
    unfolding install
    install-plain border =
        place-plain (valid_set set) border (same_keys (keys_of set) (active_in s)) (shares (keys_of set) (active_in s))
