-- In the published form a bad value never refuses a payload: the verdict is told by the scan and the labels, and at a join request by
-- whether the network identifier is good.
use Rattle.std.specs.Prelude.{ℕ, ◌≡◌, Bool, false, cond, ◌&&◌, List, [], ◌∷◌, eqb, leb, length, Ok, Err}
use Rattle.refusal.specs.declared.Refusal.TheVariants as refusal
use Rattle.refusal.specs.Verdict.{Verdict}
use Rattle.cbor.specs.Item.{Pairs}
use Rattle.cbor.specs.Strict.{head_by}
use Rattle.cbor.specs.View.{number, minus, string, other, View, scalar, list}
use Rattle.cojp.specs.Configuration.{read_configuration_by}
use Rattle.cojp.specs.Request.{read_request_by}
use Rattle.cojp.specs.declared.configuration.ConfigurationRead.{ConfigurationRead}
use Rattle.cojp.specs.declared.request.RequestRead.{RequestRead}
use Rattle.protocol_version.specs.declared.Version.TheVariants.{Published}
use Rattle.link_key.specs.set.Lists.{any_of}
use Rattle.cojp_rfc9031_laws.specs.Labels.{configuration_labels, request_labels, Known, known_in, labels_verdict, payload_verdict}

-- a network identifier is a byte string of at most 16 bytes
abbrev pub is_identifier : View → Bool
is_identifier (scalar (string s)) = leb (length s) 16
is_identifier (scalar (number n)) = false
is_identifier (scalar (minus n)) = false
is_identifier (scalar other) = false
is_identifier (list ps) = false

-- label 5 came with one
abbrev pub identified : List Known → Bool
identified ks = any_of (λ (k : Known). eqb k.label 5 && is_identifier k.value) ks

-- a request without one is OWED, once nothing else refuses it
abbrev pub or_owed : Bool → Verdict → Verdict
or_owed good (Ok tt) = cond good (Ok tt) (Err refusal.Owed)
or_owed good (Err k) = Err k

abbrev pub configuration_verdict : Pairs → Verdict
configuration_verdict ps = labels_verdict configuration_labels [] ps

abbrev pub request_verdict : Pairs → Verdict
request_verdict ps = or_owed (identified (known_in request_labels ps)) (labels_verdict request_labels [] ps)

-- ---- the readers of the published form, strict or not
abbrev pub configuration_of : Bool → List ℕ → ConfigurationRead
configuration_of strict p = read_configuration_by Published (head_by strict) p

abbrev pub request_of : Bool → List ℕ → RequestRead
request_of strict p = read_request_by Published (head_by strict) p

pub record BadNeverRefuses : Type 0 where
  pub configuration : (strict : Bool) (p : List ℕ) → (configuration_of strict p).verdict ≡ payload_verdict configuration_verdict strict p
  pub request : (strict : Bool) (p : List ℕ) → (request_of strict p).verdict ≡ payload_verdict request_verdict strict p
  -- a JRC address that is no byte string, alone in its payload
  pub example : (configuration_of false (0xA1 ∷ 0x04 ∷ 0x00 ∷ [])).verdict ≡ Ok tt
