-- While no part was LONG, no overrun is marked and as many bytes have arrived as the accepted parts had:
-- so a part is LONG exactly where it passes 256.
use Prim.Native.Nat.{ℕ, ◌+◌, ◌≤◌, ◌<◌}
use mathlib.Core.Path.{◌≡◌, refl, ap, sym, subst}
use mathlib.Core.Bool.{Bool, true, false}
use mathlib.Core.List.{List, [], ◌∷◌}
use native.Mathlib.Omega.{arith}
use borrow.Author.Tests.{ltb-true, ltb-false}
use lib.Dec.{ltb}
use lib.ListN.{length, length-append}
use Rattle.lemmas.specs.logic.Tests.{neither_left, neither_right}
use Rattle.cojp_serial.specs.State.{placed, grown, part_answer, part_store, end_state}
use Rattle.cojp_serial.specs.Calls.{SerialCall, resetting, sending, ending, Held, decision_on}
use Rattle.cojp_serial.specs.Calls.{told, left, left_by, answers, joined, sendings}
use Rattle.cojp_serial.specs.Calls.{verdict_in, if_accepted, taken_by, taken_in, says_long, long_part, long_part_in}
use Rattle.cojp_serial.specs.Laws.{NoReset, no-calls, part-next, end-next, Each, none_told, next-told, LongExactly}
use Rattle.cojp_serial.specs.Laws.{IsAccepted, OwnBytes, LongWherePassed, FittingPartsTaken, WritesItsOwn}
use Rattle.cojp_serial.specs.declared.state.PartDecision.{PartDecision}
use Rattle.cojp_serial.specs.declared.state.PartDecision.TheVariants.{Outside, Overrun, Ended, Open}
use Rattle.cojp_serial.proofs.Courses.{overrun-now, ended-before, open-to, open-fits}
use Rattle.cojp_serial.proofs.Stores.{placed-length, placed-own}
use Rattle.cojp_serial.proofs.Until.{long-course, open-course}

-- n bytes were taken, and none was too many
pub record Counted (h : Held) (n : ℕ) : Type 0 where
  pub arrived : h.state.arrived ≡ n
  pub clear : h.state.overrun ≡ false
  pub limited : h.state.arrived ≤ 256
  pub store : 256 ≤ length h.store

unmoved : (h : Held) (n : ℕ) → Counted h n → Counted h (n + 0)
unmoved h n w = record { arrived = omega (arith, w.arrived); clear = w.clear; limited = w.limited; store = w.store }

-- ---- one call more
pub taken-counted : (h : Held) (n : ℕ) (p : List ℕ) → Counted h n → h.state.arrived + length p ≤ 256
    → Counted (record { state = grown h.state (length p); store = placed h.state.arrived p h.store }) (n + length p)
taken-counted h n p w room = record {
  arrived = omega (arith, w.arrived);
  clear = w.clear;
  limited = room;
  store = rw (placed-length h.state.arrived p h.store (omega (arith, room, w.store))) w.store;
}

part-counted : (h : Held) (n : ℕ) (p : List ℕ) (x : PartDecision) → decision_on h (length p) ≡ x → Counted h n
    → says_long (part_answer x h.state (length p)).verdict ≡ false
    → Counted (record { state = (part_answer x h.state (length p)).state; store = part_store x h.state.arrived p h.store })
    (n + if_accepted (part_answer x h.state (length p)).verdict (length p))
part-counted h n p Outside e w short = unmoved h n w
part-counted h n p Overrun e w short = absurd (let z : ◌≡◌ {A = ℕ} 0 1 = cc in omega arith)
part-counted h n p Ended e w short = unmoved h n w
part-counted h n p Open e w short = taken-counted h n p w (open-fits h.state (length h.store) (length p) e).room

pub end-counted : (h : Held) (n : ℕ) (x : PartDecision) → Counted h n
    → Counted (record { state = end_state x h.state; store = h.store }) (n + 0)
end-counted h n Outside w = unmoved h n w
end-counted h n Overrun w = unmoved h n w
end-counted h n Ended w = unmoved h n w
end-counted h n Open w = record { arrived = omega (arith, w.arrived); clear = w.clear; limited = w.limited; store = w.store }

-- ---- many calls
all-counted : (cs : List SerialCall) (h : Held) (n : ℕ) → NoReset cs → Counted h n → long_part_in cs h ≡ false
    → Counted (left_by cs h) (n + taken_in cs h)
all-counted [] h n no-calls w none = unmoved h n w
all-counted (resetting ∷ cs) h n q w none = elim q [ ]
all-counted (sending p ∷ cs) h n (part-next q) w none =
    let more = taken_by (sending p) (told (sending p) h) in
    let this = long_part (sending p) (told (sending p) h) in
    let later = long_part_in cs (left (sending p) h) in
    let next = part-counted h n p (decision_on h (length p)) refl w (neither_left this later none) in
    let sum : n + more + taken_in cs (left (sending p) h) ≡ n + (more + taken_in cs (left (sending p) h)) = omega arith in
    subst (λ (m : ℕ). Counted (left_by cs (left (sending p) h)) m) sum
    (all-counted cs (left (sending p) h) (n + more) q next (neither_right this later none))
all-counted (ending r ∷ cs) h n (end-next q) w none =
    let next = end-counted h n (decision_on h 0) w in
    let sum : n + 0 + taken_in cs (left (ending r) h) ≡ n + (0 + taken_in cs (left (ending r) h)) = omega arith in
    subst (λ (m : ℕ). Counted (left_by cs (left (ending r) h)) m) sum (all-counted cs (left (ending r) h) (n + 0) q next none)

pub begun : (h : Held) → 256 ≤ length h.store → Counted (left resetting h) 0
begun h s = record { arrived = refl; clear = refl; limited = omega arith; store = s }

-- ---- a part then
exactly : (h : Held) (n : ℕ) (p : List ℕ) → Counted h n → LongExactly (verdict_in (told (sending p) h)) (n + length p)
exactly h n p w = record {
  passed = λ m. ap (λ (x : PartDecision). (part_answer x h.state (length p)).verdict) (sym (over (omega (arith, m, w.arrived))));
  only = λ e. by-room (ltb 256 (h.state.arrived + length p)) refl (long-course (decision_on h (length p)) h (length p) e);
}
  where
    over : 256 < h.state.arrived + length p → Overrun ≡ decision_on h (length p)
    over m = overrun-now h.state (length h.store) (length p) w.store w.limited w.clear m

    by_end : (y : Bool) → h.state.ended ≡ y → h.state.arrived + length p ≤ 256 → decision_on h (length p) ≡ Overrun → 256 < n + length p
    by_end true e f o =
        let c = ended-before h.state (length h.store) (length p) w.store w.limited w.clear f e in
        absurd (let z : ◌≡◌ {A = ℕ} 0 1 = cc in omega arith)
    by_end false e f o =
        let c = open-to h.state (length h.store) (length p) w.store w.limited w.clear f e in
        absurd (let z : ◌≡◌ {A = ℕ} 0 1 = cc in omega arith)

    by-room : (y : Bool) → ltb 256 (h.state.arrived + length p) ≡ y → decision_on h (length p) ≡ Overrun → 256 < n + length p
    by-room true e o = let m = ltb-true 256 (h.state.arrived + length p) e in omega (arith, m, w.arrived)
    by-room false e o = by_end h.state.ended refl (ltb-false 256 (h.state.arrived + length p) e) o

pub long-where-passed : LongWherePassed
long-where-passed h cs p s q short = exactly (left_by cs (left resetting h)) (taken_in cs (left resetting h)) p counted
  where
    counted : Counted (left_by cs (left resetting h)) (taken_in cs (left resetting h))
    counted =
        subst (λ (m : ℕ). Counted (left_by cs (left resetting h)) m) (omega arith) (all-counted cs (left resetting h) 0 q (begun h s) short)

-- ---- a payload that fits
all-taken : (ps : List (List ℕ)) (h : Held) (n : ℕ) → Counted h n → h.state.ended ≡ false → n + length (joined ps) ≤ 256
    → Each IsAccepted (answers (sendings ps) h)
all-taken [] h n w e fits = none_told
all-taken (p ∷ ps) h n w e fits =
    let whole : n + (length p + length (joined ps)) ≤ 256 = rw (length-append p (joined ps)) at fits in
    let room : h.state.arrived + length p ≤ 256 = omega (arith, whole, w.arrived) in
    let decision = open-to h.state (length h.store) (length p) w.store w.limited w.clear room e in
    next-told {t = told (sending p) h} (ap (λ (x : PartDecision). (part_answer x h.state (length p)).verdict) (sym decision))
    (subst
    (λ (x : PartDecision).
    Each IsAccepted
    (answers (sendings ps)
    (record { state = (part_answer x h.state (length p)).state; store = part_store x h.state.arrived p h.store })))
    decision
    (all-taken ps (record { state = grown h.state (length p); store = placed h.state.arrived p h.store }) (n + length p)
    (taken-counted h n p w room) e (omega (arith, whole))))

pub fitting-parts-taken : FittingPartsTaken
fitting-parts-taken h ps s fits = all-taken ps (left resetting h) 0 (begun h s) refl (omega (arith, fits))

-- ---- the store
pub writes-its-own : WritesItsOwn
writes-its-own h p e =
    let decision = open-course (decision_on h (length p)) h (length p) e in
    let f = open-fits h.state (length h.store) (length p) decision in
    subst (λ (x : PartDecision). OwnBytes h.state.arrived p h.store (part_store x h.state.arrived p h.store)) (sym decision)
    (placed-own h.state.arrived p h.store (omega (arith, f.room, f.store)))
