-- From a reset on the first end finds the arrival overrun or open. Where it is open the end is marked, and then only a part that passes 256
-- changes what an end is answered: from PHASE to LONG.
use Rattle.std.specs.Prelude.{Err}
use Prim.Native.Nat.{ℕ, ◌+◌, ◌≤◌, ◌<◌}
use mathlib.Core.Path.{◌≡◌, refl, ap, sym, ◌∙◌}
use mathlib.Core.Bool.{Bool, true, false, cond, ◌||◌}
use mathlib.Core.List.{List, [], ◌∷◌}
use native.Mathlib.Omega.{arith}
use borrow.Author.Tests.{ltb-true, ltb-false}
use lib.Dec.{ltb}
use lib.ListN.{length}
use Rattle.refusal.specs.declared.Refusal.TheVariants.{Long, Phase}
use Rattle.cojp_serial.specs.State.{placed, grown, end_marked, part_answer}
use Rattle.cojp_serial.specs.Calls.{Reader, request, configuration, SerialCall, resetting, sending, ending, Held, decision_on}
use Rattle.cojp_serial.specs.Calls.{told, left, left_by, verdict_in, says_long, long_part_in}
use Rattle.cojp_serial.specs.Laws.{NoReset, no-calls, part-next, end-next, IsLong, HasEnd, later-end, EndAfterEnd}
use Rattle.cojp_serial.specs.declared.state.PartDecision.{PartDecision}
use Rattle.cojp_serial.specs.declared.state.PartDecision.TheVariants.{Ended, Open}
use Rattle.cojp_serial.proofs.Courses.{overrun-now, ended-before, open-to}
use Rattle.cojp_serial.proofs.Passed.{Counted, taken-counted, end-counted, begun}
use Rattle.cojp_serial.proofs.Until.{Over, over-course, over-part, over-end, end-is-long}

-- ---- the answer to an end after the calls cs
abbrev Answered : List SerialCall → Held → Reader → Type 0
Answered cs h r = verdict_in (told (ending r) (left_by cs h)) ≡ cond (long_part_in cs h) (Err Long) (Err Phase)

long_after : (cs : List SerialCall) (h : Held) (r : Reader) → NoReset cs → Over h → IsLong (verdict_in (told (ending r) (left_by cs h)))
long_after [] h r no-calls w = end-is-long r h (over-course h 0 w)
long_after (resetting ∷ cs) h r q w = elim q [ ]
long_after (sending p ∷ cs) h r (part-next q) w =
    long_after cs (left (sending p) h) r q (over-part h p (over-course h (length p) w) w.limited)
long_after (ending e ∷ cs) h r (end-next q) w = long_after cs (left (ending e) h) r q (over-end h e w)

end-is-phase : (r : Reader) (h : Held) → decision_on h 0 ≡ Ended → verdict_in (told (ending r) h) ≡ Err Phase
end-is-phase (request v strict) h e = rw e
end-is-phase (configuration v strict) h e = rw e

-- ---- a part that passes 256 is LONG, and so is the end
passing : (p : List ℕ) (cs : List SerialCall) (h : Held) (n : ℕ) (r : Reader) → NoReset cs → Counted h n
    → 256 < h.state.arrived + length p → Answered (sending p ∷ cs) h r
passing p cs h n r q w m =
    let e = sym (overrun-now h.state (length h.store) (length p) w.store w.limited w.clear m) in
    let over = over-part h p e (record { store = w.store; arrived = w.limited }) in
    let later = long_part_in cs (left (sending p) h) in
    let this =
    ap (λ (x : PartDecision). cond (says_long (part_answer x h.state (length p)).verdict || later) (Err Long) (Err Phase)) e in
    long_after cs (left (sending p) h) r q over ∙ sym this

-- ---- once an end is marked
again : (cs : List SerialCall) (h : Held) (n : ℕ) (r : Reader) → NoReset cs → Counted h n → h.state.ended ≡ true → Answered cs h r
again [] h n r no-calls w m =
    let decision = sym (ended-before h.state (length h.store) 0 w.store w.limited w.clear (omega (arith, w.limited)) m) in
    end-is-phase r h decision
again (resetting ∷ cs) h n r q w m = elim q [ ]
again (sending p ∷ cs) h n r (part-next q) w m = by-room (ltb 256 (h.state.arrived + length p)) refl (again cs h n r q w m)
  where
    by-room : (y : Bool) → ltb 256 (h.state.arrived + length p) ≡ y → Answered cs h r → Answered (sending p ∷ cs) h r
    by-room true e rest = passing p cs h n r q w (ltb-true 256 (h.state.arrived + length p) e)
    by-room false e rest =
        let room = ltb-false 256 (h.state.arrived + length p) e in
        let decision = sym (ended-before h.state (length h.store) (length p) w.store w.limited w.clear room m) in
        rw decision rest
again (ending e ∷ cs) h n r (end-next q) w m =
    let decision = sym (ended-before h.state (length h.store) 0 w.store w.limited w.clear (omega (arith, w.limited)) m) in
    rw decision (again cs h n r q w m)

-- ---- before the first end
abbrev taken : Held → List ℕ → Held
taken h p = record { state = grown h.state (length p); store = placed h.state.arrived p h.store }

until_end : (cs : List SerialCall) (h : Held) (n : ℕ) (r : Reader) → NoReset cs → HasEnd cs → Counted h n → h.state.ended ≡ false
    → Answered cs h r
until_end [] h n r q z w m = elim z [ ]
until_end (resetting ∷ cs) h n r q z w m = elim q [ ]
until_end (sending p ∷ cs) h n r (part-next q) (later-end z) w m =
    by-room (ltb 256 (h.state.arrived + length p)) refl
    (λ room. until_end cs (taken h p) (n + length p) r q z (taken-counted h n p w room) m)
  where
    by-room : (y : Bool) → ltb 256 (h.state.arrived + length p) ≡ y → (h.state.arrived + length p ≤ 256 → Answered cs (taken h p) r)
        → Answered (sending p ∷ cs) h r
    by-room true e rest = passing p cs h n r q w (ltb-true 256 (h.state.arrived + length p) e)
    by-room false e rest =
        let room = ltb-false 256 (h.state.arrived + length p) e in
        let decision = sym (open-to h.state (length h.store) (length p) w.store w.limited w.clear room m) in
        rw decision (rest room)
until_end (ending e ∷ cs) h n r (end-next q) z w m =
    let decision = sym (open-to h.state (length h.store) 0 w.store w.limited w.clear (omega (arith, w.limited)) m) in
    rw decision (again cs (record { state = end_marked h.state; store = h.store }) (n + 0) r q (end-counted h n Open w) refl)

pub end-after-end : EndAfterEnd
end-after-end h cs r s q z = until_end cs (left resetting h) 0 r q z (begun h s) refl
