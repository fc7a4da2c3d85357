-- A refusal leaves the key sets, and stands beside the key that is all zero.
use Rattle.std.specs.Prelude.{Ok, Err}
use Prim.Native.Nat.{ℕ}
use mathlib.Core.Path.{◌≡◌, refl, ap}
use mathlib.Core.Bool.{Bool, true, false, cond, not, ◌&&◌}
use mathlib.Core.Option.{Option, none, some}
use lib.Dec.{eqb}
use Rattle.refusal.specs.RefusalLemmas.{accepted-not}
use Rattle.refusal.specs.declared.Refusal.{Refusal}
use Rattle.refusal.specs.declared.Refusal.TheVariants as refusal
use Rattle.refusal.specs.Verdict.{Verdict}
use Rattle.link_key.specs.Key.{no_key, covers}
use Rattle.link_key.specs.set.KeySet.{keys_of, has, valid_set, same_keys, shares}
use Rattle.link_key.specs.declared.set.key_set.KeySet.{KeySet}
use Rattle.link_key.specs.usage.Usage.{known_type}
use Rattle.link_key.specs.declared.Key.{Key}
use Rattle.link_key_counters.specs.Counters.{take_counter}
use Rattle.link_key_counters.specs.declared.TakenCounter.{TakenCounter}
use Rattle.node_key_sets.specs.Sets.{active_in, install}
use Rattle.node_key_sets.specs.Frames.{with_key, without_key, unsent, sent_with, sending, held_key}
use Rattle.node_key_sets.specs.Frames.{if_covers, receiving_key, effect_by, verified_in, change_verdict}
use Rattle.node_key_sets.specs.declared.frames.KeyAnswer.{KeyAnswer}
use Rattle.node_key_sets.specs.declared.sets.KeySets.{KeySets}
use Rattle.node_key_sets.specs.Demand1.{Unsent}
use Rattle.node_key_sets.proofs.Valid.{place_by}

-- ---- keys
abbrev pub Unanswered : KeyAnswer → Type 0
Unanswered x = (k : Refusal) → x.verdict ≡ Err k → x.key ≡ no_key

with-key : (l : Key) → Unanswered (with_key l)
with-key l k e = accepted-not k e

without-key : (j : Refusal) → Unanswered (without_key j)
without-key j k e = refl

pub cond-unanswered : (b : Bool) (x y : KeyAnswer) → Unanswered x → Unanswered y → Unanswered (cond b x y)
cond-unanswered true x y p q = p
cond-unanswered false x y p q = q

if-covers : (type : ℕ) (o : Option Key) → Unanswered (if_covers type o)
if-covers type none = without-key refusal.Silent
if-covers type (some l) = cond-unanswered (covers l type) _ _ (with-key l) (without-key refusal.Silent)

-- a refused sending: no key, counter 0, and the sets as they were
unsent-by : (s : KeySets) (y : TakenCounter) (b : Bool) (k : Refusal) → y.found ≡ b → (sent_with s y).answer.verdict ≡ Err k
    → Unsent s (sent_with s y)
unsent-by s y true k f e = accepted-not k (rw f at e)
unsent-by s y false k f e = rw f (record { key = refl; counter = refl; sets = refl })

send_by :
    (s : KeySets) (y : TakenCounter) (t : Bool) (k : Refusal) →
    (cond t (sent_with s y) (unsent refusal.Range s)).answer.verdict ≡ Err k →
    Unsent s (cond t (sent_with s y) (unsent refusal.Range s))
send_by s y true k e = unsent-by s y y.found k refl e
send_by s y false k e = record { key = refl; counter = refl; sets = refl }

pub send-untouched : (s : KeySets) (type : ℕ) (k : Refusal) → (sending s type).answer.verdict ≡ Err k
    → Unsent s (sending s type)
unfolding sending
send-untouched s type k e = send_by s (take_counter type s.active) (known_type type) k e

pub receive-untouched : (s : KeySets) (type identifier : ℕ) → Unanswered (receiving_key s type identifier)
unfolding receiving_key
receive-untouched s type identifier =
    cond-unanswered (known_type type && not (eqb identifier 0)) _ _ (if-covers type (held_key s identifier)) (without-key refusal.Range)

-- ---- a new set
install-untouched-by :
    (s : KeySets) (set : KeySet) (ok border same shared : Bool) (k : Refusal) →
    (place_by s set ok border same shared).verdict ≡ Err k → (place_by s set ok border same shared).sets ≡ s
install-untouched-by s set false border same shared k e = refl
install-untouched-by s set true true same shared k e = accepted-not k e
install-untouched-by s set true false true shared k e = accepted-not k e
install-untouched-by s set true false false true k e = refl
install-untouched-by s set true false false false k e = accepted-not k e

pub install-untouched :
    (border : Bool) (s : KeySets) (set : KeySet) (k : Refusal) → (install border s set).verdict ≡ Err k
    → (install border s set).sets ≡ s
unfolding install
install-untouched border s set k e =
    install-untouched-by s set (valid_set set) border (same_keys (keys_of set) (active_in s)) (shares (keys_of set) (active_in s)) k e

-- ---- the verified report
report-untouched :
    (s : KeySets) (w : Verdict) (b : Bool) (k : Refusal) → change_verdict (effect_by w b s).change ≡ Err k →
    ((effect_by w b s).sets ≡ s) × ((effect_by w b s).change ≡ Err k)
report-untouched s (Err j) b k e = (refl, ap Err (cc))
report-untouched s (Ok tt) true k e = accepted-not k e
report-untouched s (Ok tt) false k e = accepted-not k e

pub verified-untouched :
    (s : KeySets) (type identifier : ℕ) (k : Refusal) → change_verdict (verified_in s type identifier).change ≡ Err k →
    ((verified_in s type identifier).sets ≡ s) × ((verified_in s type identifier).change ≡ Err k)
unfolding verified_in
verified-untouched s type identifier k e = report-untouched s (receiving_key s type identifier).verdict (has identifier (active_in s)) k e
