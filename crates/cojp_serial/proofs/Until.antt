-- What a marked overrun or a marked end makes of every call until a reset: no call but that takes a mark away.
use Rattle.std.specs.Prelude.{Ok, Err}
use Prim.Native.Nat.{ℕ}
use mathlib.Core.Path.{◌≡◌, refl, sym}
use mathlib.Core.Bool.{true}
use mathlib.Core.List.{List, [], ◌∷◌}
use native.Mathlib.Omega.{arith}
use lib.ListN.{length}
use Rattle.refusal.specs.declared.Refusal.{Refusal}
use Rattle.refusal.specs.declared.Refusal.TheVariants.{Long, Phase}
use Rattle.refusal.specs.Verdict.{Verdict}
use Rattle.cbor.specs.Strict.{head_by}
use Rattle.cojp.specs.Configuration.{refuse_configuration, read_configuration_by}
use Rattle.cojp.specs.Request.{refuse_request, read_request_by}
use Rattle.cojp.specs.declared.configuration.ConfigurationRead.{ConfigurationRead}
use Rattle.cojp.specs.declared.request.RequestRead.{RequestRead}
use Rattle.cojp_serial.specs.State.{part_answer, part_store, end_read, end_state}
use Rattle.cojp_serial.specs.Calls.{Reader, request, configuration, SerialCall, resetting, sending}
use Rattle.cojp_serial.specs.Calls.{ending, Held, decision_on, told, left, answers, verdict_in}
use Rattle.cojp_serial.specs.Laws.{NoReset, no-calls, part-next, end-next, Each, none_told, next-told}
use Rattle.cojp_serial.specs.Laws.{IsLong, LongOrPhase, long, phase, LongUntilReset, PhaseUntilReset}
use Rattle.cojp_serial.specs.declared.state.PartDecision.{PartDecision}
use Rattle.cojp_serial.specs.declared.state.PartDecision.TheVariants.{Outside, Overrun, Ended, Open}
use Rattle.cojp_serial.proofs.Courses.{Limited, Shut, by-overrun, by_end, overrun-before, open-fits, overrun-limited, ended-shut}

-- ---- after an overrun
pub record Over (h : Held) : Type 0 where
  pub limited : Limited h.state (length h.store)
  pub marked : h.state.overrun ≡ true

pub over-course : (h : Held) (n : ℕ) → Over h → decision_on h n ≡ Overrun
over-course h n w =
    sym (overrun-before h.state (length h.store) n w.limited.store w.limited.arrived w.marked)

pub end-is-long : (r : Reader) (h : Held) → decision_on h 0 ≡ Overrun → IsLong (verdict_in (told (ending r) h))
end-is-long (request v strict) h e = rw e
end-is-long (configuration v strict) h e = rw e

pub over-part : (h : Held) (p : List ℕ) → decision_on h (length p) ≡ Overrun → Limited h.state (length h.store)
    → Over (left (sending p) h)
over-part h p e w = rw e (record { limited = record { store = w.store; arrived = w.arrived }; marked = refl })

pub over-end : (h : Held) (r : Reader) → Over h → Over (left (ending r) h)
over-end h r w = rw (over-course h 0 w) w

all-long : (cs : List SerialCall) (h : Held) → NoReset cs → Over h → Each IsLong (answers cs h)
all-long [] h no-calls w = none_told
all-long (resetting ∷ cs) h q w = elim q [ ]
all-long (sending p ∷ cs) h (part-next q) w =
    let e = over-course h (length p) w in
    next-told {t = told (sending p) h} (rw e) (all-long cs (left (sending p) h) q (over-part h p e w.limited))
all-long (ending r ∷ cs) h (end-next q) w =
    next-told (end-is-long r h (over-course h 0 w)) (all-long cs (left (ending r) h) q (over-end h r w))

-- a part is LONG where its course is overrun
pub long-course : (x : PartDecision) (h : Held) (n : ℕ) → (part_answer x h.state n).verdict ≡ Err Long → x ≡ Overrun
long-course Outside h n e = absurd (let z : ◌≡◌ {A = ℕ} 0 1 = cc in omega arith)
long-course Overrun h n e = refl
long-course Ended h n e = absurd (let z : ◌≡◌ {A = ℕ} 0 1 = cc in omega arith)
long-course Open h n e = absurd (let z : ◌≡◌ {A = ℕ} 0 1 = cc in omega arith)

pub long-until-reset : LongUntilReset
long-until-reset h p cs e q =
    let o = long-course (decision_on h (length p)) h (length p) e in
    all-long cs (left (sending p) h) q (over-part h p o (overrun-limited h.state (length h.store) (length p) o))

-- ---- after an end
record Closed (h : Held) : Type 0 where
  limited : Limited h.state (length h.store)
  marked : h.state.ended ≡ true

shut : (h : Held) (n : ℕ) → Closed h → Shut (decision_on h n)
shut h n w = ended-shut h.state (length h.store) n w.limited w.marked

shut-part : (h : Held) (p : List ℕ) (x : PartDecision) → Shut x → LongOrPhase (part_answer x h.state (length p)).verdict
shut-part h p x by-overrun = long refl
shut-part h p x by_end = phase refl

shut-read : {A : Type 0} (refuse : Refusal → A) (reader : List ℕ → A) (verdict : A → Verdict) (p : List ℕ) (x : PartDecision)
    → ((k : Refusal) → verdict (refuse k) ≡ Err k) → Shut x → LongOrPhase (verdict (end_read refuse reader x p))
shut-read refuse reader verdict p x says by-overrun = long (says Long)
shut-read refuse reader verdict p x says by_end = phase (says Phase)

shut-end : (r : Reader) (h : Held) → Shut (decision_on h 0) → LongOrPhase (verdict_in (told (ending r) h))
shut-end (request v strict) h w =
    shut-read refuse_request (read_request_by v (head_by strict)) (λ (y : RequestRead). y.verdict) _
    (decision_on h 0) (λ k. refl) w
shut-end (configuration v strict) h w =
    shut-read refuse_configuration (read_configuration_by v (head_by strict)) (λ (y : ConfigurationRead). y.verdict)
    _ (decision_on h 0) (λ k. refl) w

closed-part : (h : Held) (p : List ℕ) (x : PartDecision) → Shut x → Closed h
    → Closed (record { state = (part_answer x h.state (length p)).state; store = part_store x h.state.arrived p h.store })
closed-part h p x by-overrun w =
    record { limited = record { store = w.limited.store; arrived = w.limited.arrived }; marked = w.marked }
closed-part h p x by_end w = w

closed-end : (h : Held) (x : PartDecision) → Shut x → Closed h → Closed (record { state = end_state x h.state; store = h.store })
closed-end h x by-overrun w = w
closed-end h x by_end w = w

all-shut : (cs : List SerialCall) (h : Held) → NoReset cs → Closed h → Each LongOrPhase (answers cs h)
all-shut [] h no-calls w = none_told
all-shut (resetting ∷ cs) h q w = elim q [ ]
all-shut (sending p ∷ cs) h (part-next q) w =
    let s = shut h (length p) w in
    next-told (shut-part h p (decision_on h (length p)) s)
    (all-shut cs (left (sending p) h) q (closed-part h p (decision_on h (length p)) s w))
all-shut (ending r ∷ cs) h (end-next q) w =
    let s = shut h 0 w in
    next-told (shut-end r h s) (all-shut cs (left (ending r) h) q (closed-end h (decision_on h 0) s w))

-- a part is accepted where its course is open
pub open-course : (x : PartDecision) (h : Held) (n : ℕ) → (part_answer x h.state n).verdict ≡ Ok tt → x ≡ Open
open-course Outside h n e = absurd (let z : ◌≡◌ {A = ℕ} 0 1 = cc in omega arith)
open-course Overrun h n e = absurd (let z : ◌≡◌ {A = ℕ} 0 1 = cc in omega arith)
open-course Ended h n e = absurd (let z : ◌≡◌ {A = ℕ} 0 1 = cc in omega arith)
open-course Open h n e = refl

just-ended : (h : Held) (r : Reader) → decision_on h 0 ≡ Open → Closed (left (ending r) h)
just-ended h r e =
    let f = open-fits h.state (length h.store) 0 e in
    rw e (record { limited = record { store = f.store; arrived = omega (arith, f.room) }; marked = refl })

pub phase-until-reset : PhaseUntilReset
phase-until-reset h r cs e q = all-shut cs (left (ending r) h) q (just-ended h r (open-course (decision_on h 0) h 0 e))
