-- Both answers have one clause for a refusal, which gives the empty object.
use Rattle.std.specs.Prelude.{Err}
use Prim.Native.Nat.{ℕ}
use mathlib.Core.Path.{◌≡◌, refl}
use native.Mathlib.Omega.{arith}
use Rattle.refusal.specs.Verdict.{verdict_number}
use Rattle.refusal.specs.declared.Refusal.{Refusal}
use Rattle.cojp.specs.Reading.{Reading, refused, read, bind}
use Rattle.cojp.specs.Walk.{payload_read_by}
use Rattle.cojp.specs.Request.{empty_request, request_answer, request_form, empty_request_state, settled}
use Rattle.cojp.specs.Configuration.{empty_configuration, configuration_answer, configuration_form}
use Rattle.cojp.specs.Laws.{ReadersDemand1}
use Rattle.cojp.specs.declared.configuration.Configuration.{Configuration}
use Rattle.cojp.specs.declared.request.JoinRequest.{JoinRequest}

request-empty : (o : Reading JoinRequest) (k : Refusal) → (request_answer o).verdict ≡ Err k
    → (request_answer o).request ≡ empty_request
request-empty (refused j) k e = refl
request-empty (read q) k e = absurd (let z : ◌≡◌ {A = ℕ} 0 1 = cc in omega arith)

configuration-empty :
    (o : Reading Configuration) (k : Refusal) → (configuration_answer o).verdict ≡ Err k →
    (configuration_answer o).configuration ≡ empty_configuration
configuration-empty (refused j) k e = refl
configuration-empty (read c) k e = absurd (let z : ◌≡◌ {A = ℕ} 0 1 = cc in omega arith)

request-zero : (o : Reading JoinRequest) → ¬ (verdict_number (request_answer o).verdict ≡ 0) → (request_answer o).request ≡ empty_request
request-zero (refused j) e = refl
request-zero (read q) e = absurd (e refl)

configuration-zero :
    (o : Reading Configuration) → ¬ (verdict_number (configuration_answer o).verdict ≡ 0) →
    (configuration_answer o).configuration ≡ empty_configuration
configuration-zero (refused j) e = refl
configuration-zero (read c) e = absurd (e refl)

pub readers-demand1 : ReadersDemand1
readers-demand1 = record {
  request = (λ v head s k e. request-empty (bind (payload_read_by (request_form v) head empty_request_state s) (settled v)) k e);
  configuration = (λ v head s k e. configuration-empty (payload_read_by (configuration_form v) head empty_configuration s) k e);
  request-number = (λ v head s e. request-zero (bind (payload_read_by (request_form v) head empty_request_state s) (settled v)) e);
  configuration-number = (λ v head s e. configuration-zero (payload_read_by (configuration_form v) head empty_configuration s) e);
}
