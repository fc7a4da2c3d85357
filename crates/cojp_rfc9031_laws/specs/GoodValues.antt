-- Of every payload of the published form that is accepted: what the object has of each parameter is what specs/Good.antt says of the value
-- that came with its label.
use Rattle.std.specs.Prelude.{ℕ, ◌≡◌, Bool, true, false, List, [], ◌∷◌, eqb, Ok}
use Rattle.cbor.specs.Laws.{Bytes}
use Rattle.cbor.specs.View.{View}
use Rattle.cojp.specs.ErrorReports.{error_report_of}
use Rattle.cojp.specs.Reading.{if_taken}
use Rattle.cojp.specs.declared.configuration.Configuration.{Configuration}
use Rattle.cojp.specs.declared.disposition.Disposition.TheVariants.{Absent}
use Rattle.cojp.specs.declared.request.JoinRequest.{JoinRequest}
use Rattle.cojp_rfc9031_laws.specs.Good.{KeysJudged, AddressJudged, JrcJudged, NetworkJudged}
use Rattle.cojp_rfc9031_laws.specs.Good.{BlacklistJudged, RateJudged, EntriesJudged}
use Rattle.cojp_rfc9031_laws.specs.Good.{keys_as, no_address_as, octets_as, list_as, rate_as}
use Rattle.cojp_rfc9031_laws.specs.InOrder.{list_reports}
use Rattle.cojp_rfc9031_laws.specs.Labels.{configuration_labels, request_labels, Known, known_in, pairs_in}
use Rattle.cojp_rfc9031_laws.specs.Verdicts.{configuration_of, request_of}

-- one claim or another
abbrev pub Chosen : Bool → Type 0 → Type 0 → Type 0
Chosen true A B = A
Chosen false A B = B

-- the parameter of label n, these known labels having come: its value tells what became of it, and without one it is absent
module _ {P : Type 0} (Told : View → P → Type 0) (absent : P) (n : ℕ) where
  abbrev pub CameAs : List Known → P → Type 0
  CameAs [] p = p ≡ absent
  CameAs (k ∷ ks) p = Chosen (eqb n k.label) (Told k.value p) (CameAs ks p)

pub record Configured (ks : List Known) (c : Configuration) : Type 0 where
  pub keys : CameAs KeysJudged (keys_as Absent []) 2 ks c.keys
  pub address : CameAs AddressJudged (no_address_as Absent) 3 ks c.address
  pub jrc : CameAs JrcJudged (octets_as Absent []) 4 ks c.jrc
  pub blacklist : CameAs BlacklistJudged (list_as Absent 0 []) 6 ks c.blacklist
  pub rate : CameAs RateJudged (rate_as Absent 0) 7 ks c.rate
  -- the draft's own two
  pub network : c.network ≡ octets_as Absent []
  pub prefix : c.prefix ≡ octets_as Absent []

pub record Requested (ks : List Known) (q : JoinRequest) : Type 0 where
  pub network : CameAs NetworkJudged (octets_as Absent []) 5 ks q.network
  pub unsupported : CameAs EntriesJudged (list_as Absent 0 []) 8 ks q.unsupported
  -- what specs/InOrder.antt has reported of the list: 1/8 exactly where it came and was not taken
  pub reported : CameAs (λ x r. list_reports x ≡ if_taken r [] (error_report_of 1 8 ∷ [])) Absent 8 ks q.unsupported.disposition

-- read strictly or not; a payload is bytes
pub record GoodValues : Type 0 where
  pub configuration :
      (strict : Bool) (p : List ℕ) → Bytes p → (configuration_of strict p).verdict ≡ Ok tt →
      Configured (known_in configuration_labels (pairs_in strict p)) (configuration_of strict p).configuration
  pub request :
      (strict : Bool) (p : List ℕ) → Bytes p → (request_of strict p).verdict ≡ Ok tt →
      Requested (known_in request_labels (pairs_in strict p)) (request_of strict p).request
