-- A refused part or end, by its course: only where the part passes 256, or the reading refuses what arrived, has the arrival changed.
use Rattle.std.specs.Prelude.{Err}
use Prim.Native.Nat.{ℕ}
use mathlib.Core.Path.{◌≡◌, refl}
use mathlib.Core.Bool.{Bool}
use mathlib.Core.List.{List}
use native.Mathlib.Omega.{arith}
use lib.ListN.{length, take}
use Rattle.refusal.specs.declared.Refusal.{Refusal}
use Rattle.cbor.specs.Strict.{head_by}
use Rattle.cojp.specs.Configuration.{empty_configuration, refuse_configuration, read_configuration_by}
use Rattle.cojp.specs.Laws.{ReadersDemand1}
use Rattle.cojp.specs.Request.{empty_request, refuse_request, read_request_by}
use Rattle.protocol_version.specs.declared.Version.{Version}
use Rattle.cojp_serial.specs.State.{part_answer, part_store, end_read, end_state}
use Rattle.cojp_serial.specs.Calls.{Reader, request, configuration, resetting, sending, ending, Held, decision_on, told, verdict_in}
use Rattle.cojp_serial.specs.Laws.{EmptyBeside, Left, as_before, overrun-marked, marked_ended, RefusedCalls}
use Rattle.cojp_serial.specs.declared.state.PartDecision.{PartDecision}
use Rattle.cojp_serial.specs.declared.state.PartDecision.TheVariants.{Outside, Overrun, Ended, Open}

-- ---- a part
module _ (h : Held) (p : List ℕ) (k : Refusal) where
  part-store : (x : PartDecision) → (part_answer x h.state (length p)).verdict ≡ Err k
      → part_store x h.state.arrived p h.store ≡ h.store
  part-store Outside e = refl
  part-store Overrun e = refl
  part-store Ended e = refl
  part-store Open e = absurd (let z : ◌≡◌ {A = ℕ} 0 1 = cc in omega arith)

  part_left : (x : PartDecision) → (part_answer x h.state (length p)).verdict ≡ Err k
      → Left (sending p) h k (part_answer x h.state (length p)).state
  part_left Outside e = as_before refl
  part_left Overrun e = overrun-marked {k = k} (cc) refl
  part_left Ended e = as_before refl
  part_left Open e = absurd (let z : ◌≡◌ {A = ℕ} 0 1 = cc in omega arith)

-- ---- an end
module _ (demand1 : ReadersDemand1) (h : Held) (k : Refusal) where
  request-object : (v : Version) (strict : Bool) (x : PartDecision) (p : List ℕ)
      → (end_read refuse_request (read_request_by v (head_by strict)) x p).verdict ≡ Err k
      → (end_read refuse_request (read_request_by v (head_by strict)) x p).request ≡ empty_request
  request-object v strict Outside p e = refl
  request-object v strict Overrun p e = refl
  request-object v strict Ended p e = refl
  request-object v strict Open p e = demand1.request v (head_by strict) p k e

  configuration-object : (v : Version) (strict : Bool) (x : PartDecision) (p : List ℕ)
      → (end_read refuse_configuration (read_configuration_by v (head_by strict)) x p).verdict ≡ Err k
      → (end_read refuse_configuration (read_configuration_by v (head_by strict)) x p).configuration ≡ empty_configuration
  configuration-object v strict Outside p e = refl
  configuration-object v strict Overrun p e = refl
  configuration-object v strict Ended p e = refl
  configuration-object v strict Open p e = demand1.configuration v (head_by strict) p k e

  end-object : (r : Reader) → verdict_in (told (ending r) h) ≡ Err k → EmptyBeside (told (ending r) h)
  end-object (request v strict) e = request-object v strict (decision_on h 0) (take h.state.arrived h.store) e
  end-object (configuration v strict) e = configuration-object v strict (decision_on h 0) (take h.state.arrived h.store) e

  request-left : (v : Version) (strict : Bool) (x : PartDecision)
      → (end_read refuse_request (read_request_by v (head_by strict)) x (take h.state.arrived h.store)).verdict ≡ Err k
      → Left (ending (request v strict)) h k (end_state x h.state)
  request-left v strict Outside e = as_before refl
  request-left v strict Overrun e = as_before refl
  request-left v strict Ended e = as_before refl
  request-left v strict Open e = marked_ended e refl

  configuration-left : (v : Version) (strict : Bool) (x : PartDecision)
      → (end_read refuse_configuration (read_configuration_by v (head_by strict)) x (take h.state.arrived h.store)).verdict ≡ Err k
      → Left (ending (configuration v strict)) h k (end_state x h.state)
  configuration-left v strict Outside e = as_before refl
  configuration-left v strict Overrun e = as_before refl
  configuration-left v strict Ended e = as_before refl
  configuration-left v strict Open e = marked_ended e refl

  end-left : (r : Reader) → verdict_in (told (ending r) h) ≡ Err k → Left (ending r) h k (end_state (decision_on h 0) h.state)
  end-left (request v strict) e = request-left v strict (decision_on h 0) e
  end-left (configuration v strict) e = configuration-left v strict (decision_on h 0) e

pub refused-calls : ReadersDemand1 → RefusedCalls
refused-calls demand1 resetting h k e = absurd (let z : ◌≡◌ {A = ℕ} 0 1 = cc in omega arith)
refused-calls demand1 (sending p) h k e = record {
  store = part-store h p k (decision_on h (length p)) e;
  object = tt;
  state = part_left h p k (decision_on h (length p)) e;
}
refused-calls demand1 (ending r) h k e = record {
  store = refl;
  object = end-object demand1 h k r e;
  state = end-left demand1 h k r e;
}
