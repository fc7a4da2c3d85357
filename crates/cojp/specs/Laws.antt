-- What this layer promises of its definitions of reading: demand 1, and the strict readings.
use Rattle.std.specs.Prelude.{ℕ, ◌≡◌, List, Bool, false, cond, ltb, length, Err}
use Rattle.refusal.specs.Verdict.{verdict_number}
use Rattle.refusal.specs.declared.Refusal.{Refusal}
use Rattle.refusal.specs.declared.Refusal.TheVariants.{Loose}
use Rattle.cbor.specs.Decode.{Outcome, Heading}
use Rattle.cbor.specs.Strict.{loose_payload}
use Rattle.cojp.specs.Request.{empty_request, refuse_request, read_request_by, read_request_as, read_strict_request_as}
use Rattle.cojp.specs.Configuration.{empty_configuration, refuse_configuration, read_configuration_by}
use Rattle.cojp.specs.Configuration.{read_configuration_as, read_strict_configuration_as}
use Rattle.protocol_version.specs.declared.Version.{Version}

-- ---- demand 1, for both forms and every reader of heads: a refusal comes with the empty object;
-- it is told by its number, which is not 0, or by its case
pub record ReadersDemand1 : Type 0 where
  pub request :
      (v : Version) (head : List ℕ → Outcome Heading) (s : List ℕ) (k : Refusal) → (read_request_by v head s).verdict ≡ Err k →
      (read_request_by v head s).request ≡ empty_request
  pub configuration :
      (v : Version) (head : List ℕ → Outcome Heading) (s : List ℕ) (k : Refusal) → (read_configuration_by v head s).verdict ≡ Err k →
      (read_configuration_by v head s).configuration ≡ empty_configuration
  pub request-number :
      (v : Version) (head : List ℕ → Outcome Heading) (s : List ℕ) → ¬ (verdict_number (read_request_by v head s).verdict ≡ 0) →
      (read_request_by v head s).request ≡ empty_request
  pub configuration-number :
      (v : Version) (head : List ℕ → Outcome Heading) (s : List ℕ) → ¬ (verdict_number (read_configuration_by v head s).verdict ≡ 0) →
      (read_configuration_by v head s).configuration ≡ empty_configuration

-- ---- the strict readings: LOOSE where the scan of a payload that is not LONG meets a longer head, else the ordinary answer,
-- which is never LOOSE
abbrev pub meets_longer : List ℕ → Bool
meets_longer s = cond (ltb 256 (length s)) false (loose_payload s)

pub record StrictReaders : Type 0 where
  pub request :
      (v : Version) (s : List ℕ) → read_strict_request_as v s ≡ cond (meets_longer s) (refuse_request Loose) (read_request_as v s)
  pub configuration :
      (v : Version) (s : List ℕ) →
      read_strict_configuration_as v s ≡ cond (meets_longer s) (refuse_configuration Loose) (read_configuration_as v s)
  pub ordinary-request : (v : Version) (s : List ℕ) → (read_request_as v s).verdict ≡ Err Loose → ⊥
  pub ordinary-configuration : (v : Version) (s : List ℕ) → (read_configuration_as v s).verdict ≡ Err Loose → ⊥
