-- What a search for a key found, and what the verified report makes of the receiving key's answer.
use Rattle.std.specs.Prelude.{Ok, Err}
use Prim.Native.Nat.{ℕ}
use mathlib.Core.Path.{◌≡◌, refl, sym, ◌∙◌}
use mathlib.Core.Bool.{true, false, cond, not, ◌&&◌}
use mathlib.Core.Option.{Option, none, some}
use lib.Dec.{eqb}
use Rattle.refusal.specs.declared.Refusal.{Refusal}
use Rattle.refusal.specs.declared.Refusal.TheVariants as refusal
use Rattle.link_key.specs.Key.{found_key}
use Rattle.std.specs.declared.option.Option.{Option as Found}
use Rattle.std.specs.declared.option.Option.TheVariants.{None, Some}
use Rattle.link_key.specs.set.KeySet.{has}
use Rattle.link_key.specs.declared.Key.{Key}
use Rattle.node_key_sets.specs.Sets.{active_in, two_sets}
use Rattle.node_key_sets.specs.Frames.{with_key, without_key, sent_with, sending, held_key, if_covers, if_found_covers, or_else, receiving_key}
use Rattle.node_key_sets.specs.Frames.{switched, effect, verified_in}
use Rattle.node_key_sets.specs.declared.frames.Change.TheVariants as change
use Rattle.node_key_sets.specs.declared.frames.KeyAnswer.{KeyAnswer}
use Rattle.node_key_sets.specs.declared.frames.SendKeyResult.{SendKeyResult}
use Rattle.node_key_sets.specs.declared.sets.KeySets.{KeySets}
use Rattle.link_key.specs.usage.Usage.{known_type}
use Rattle.link_key_counters.specs.Counters.{Slot, first_serving, taken_counter_on, take_counter}
use Rattle.link_key_counters.specs.declared.TakenCounter.{TakenCounter}

-- ---- a key that was looked for
found-covers : (type : ℕ) (o : Option Key) → if_found_covers type (found_key o) ≡ if_covers type o
found-covers type none = refl
found-covers type (some k) = refl

-- the active key, or else the pending one
pub held-first : (o p : Option Key) {k : Key} → found_key o ≡ Some k → Some k ≡ found_key (or_else o p)
held-first none p e = cc
held-first (some l) p e = sym e

pub held-second : (o p : Option Key) → found_key o ≡ None → found_key p ≡ found_key (or_else o p)
held-second none p e = refl
held-second (some l) p e = cc

-- the answer from what was found under the identifier
pub from-held :
    (s : KeySets) (type identifier : ℕ) (x : Found Key) → x ≡ found_key (held_key s identifier) → (r : KeyAnswer) →
    r ≡ cond (known_type type && not (eqb identifier 0)) (if_found_covers type x) (without_key refusal.Range) →
    r ≡ receiving_key s type identifier
unfolding receiving_key
from-held s type identifier x e r h = h ∙ rw (e, found-covers type (held_key s identifier))

-- ---- a key that was spent
-- as the code builds it: only the answer asks whether a key was found, since without one the counter is 0 and the set as it was
abbrev sent_from : KeySets → TakenCounter → SendKeyResult
sent_from s x =
    let answer = cond x.found (with_key x.key) (without_key refusal.Silent) in
    record { answer = answer; counter = x.counter; sets = two_sets x.set s.pending }

sent-on : (s : KeySets) (o : Option Slot) → sent_from s (taken_counter_on s.active o) ≡ sent_with s (taken_counter_on s.active o)
sent-on s none = refl
sent-on s (some x) = refl

pub sent-spent : (s : KeySets) (type : ℕ) → known_type type ≡ true → (x : TakenCounter) → x ≡ take_counter type s.active
    → sent_from s x ≡ sending s type
unfolding sending take_counter
sent-spent s type known x e = rw (known, e) (sent-on s (first_serving type s.active))

-- ---- the verified report
module _ (s : KeySets) (type identifier : ℕ) (x : KeyAnswer) (e : x ≡ receiving_key s type identifier) where
  pub report-refused : (k : Refusal) → x.verdict ≡ Err k → verified_in s type identifier ≡ effect (Err k) s
  unfolding verified_in
  report-refused k r = rw (← e, r)

  pub report-kept :
      x.verdict ≡ Ok tt → has identifier (active_in s) ≡ true → verified_in s type identifier ≡ effect (Ok change.Kept) s
  unfolding verified_in
  report-kept r h = rw (← e, r, h)

  pub report-switched :
      x.verdict ≡ Ok tt → has identifier (active_in s) ≡ false
      → verified_in s type identifier ≡ effect (Ok change.Switched) (switched s)
  unfolding verified_in
  report-switched r h = rw (← e, r, h)
