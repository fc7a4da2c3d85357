-- The round trip, in either form: what is written, read strictly or not, reads back as the same object, nothing discarded, reported or
-- passed over.
use Rattle.std.specs.Prelude.{ℕ, ◌≡◌, List, Bool, take, Ok}
use Rattle.byte_io.specs.Write.{emit, answer, after}
use Rattle.cbor.specs.Strict.{head_by}
use Rattle.cojp.specs.ErrorReports.{no_error_reports}
use Rattle.cojp.specs.Request.{read_request_by}
use Rattle.cojp.specs.Configuration.{read_configuration_by}
use Rattle.cojp.specs.Reported.{error_reports_of}
use Rattle.cojp.specs.Writing.{request_plan, configuration_plan}
use Rattle.cojp.specs.Same.{SameRequest, SameConfiguration}
use Rattle.cojp.specs.declared.configuration.Configuration.{Configuration}
use Rattle.cojp.specs.declared.configuration.ConfigurationRead.{ConfigurationRead}
use Rattle.cojp.specs.declared.disposition.Disposition.{Disposition}
use Rattle.cojp.specs.declared.disposition.Disposition.TheVariants.{Discarded}
use Rattle.cojp.specs.declared.request.JoinRequest.{JoinRequest}
use Rattle.cojp.specs.declared.request.RequestRead.{RequestRead}
use Rattle.protocol_version.specs.declared.Version.{Version}

abbrev pub Kept : Disposition → Type 0
Kept r = r ≡ Discarded → ⊥

-- ---- what reading answers, the object being the one that was written
pub record RequestBack (q : JoinRequest) (r : RequestRead) : Type 0 where
  pub accepted : r.verdict ≡ Ok tt
  pub same : SameRequest r.request q
  pub network-kept : Kept r.request.network.disposition
  pub unsupported-kept : Kept r.request.unsupported.disposition
  pub unreported : r.request.errors ≡ no_error_reports
  pub passed : r.request.unknown ≡ 0

pub record ConfigurationBack (c : Configuration) (r : ConfigurationRead) : Type 0 where
  pub accepted : r.verdict ≡ Ok tt
  pub same : SameConfiguration r.configuration c
  pub keys_kept : Kept r.configuration.keys.disposition
  pub address_kept : Kept r.configuration.address.disposition
  pub jrc-kept : Kept r.configuration.jrc.disposition
  pub network-kept : Kept r.configuration.network.disposition
  pub prefix-kept : Kept r.configuration.prefix.disposition
  pub blacklist-kept : Kept r.configuration.blacklist.disposition
  pub rate-kept : Kept r.configuration.rate.disposition
  pub unreported : error_reports_of r.configuration ≡ no_error_reports
  pub passed : r.configuration.unknown ≡ 0

-- ---- the bytes of the plan
abbrev pub RequestRoundTrip : JoinRequest → Type 0
RequestRoundTrip q =
    (v : Version) (p : List ℕ) → request_plan v q ≡ emit p → (b : Bool) → RequestBack q (read_request_by v (head_by b) p)

abbrev pub ConfigurationRoundTrip : Configuration → Type 0
ConfigurationRoundTrip c =
    (v : Version) (p : List ℕ) → configuration_plan v c ≡ emit p → (b : Bool) → ConfigurationBack c (read_configuration_by v (head_by b) p)

-- ---- any destination: where n bytes were written, its first n bytes afterwards
abbrev pub RequestInPlace : JoinRequest → Type 0
RequestInPlace q =
    (v : Version) (d : List ℕ) (n : ℕ) → answer (request_plan v q) d ≡ Ok n → (b : Bool) →
    RequestBack q (read_request_by v (head_by b) (take n (after (request_plan v q) d)))

abbrev pub ConfigurationInPlace : Configuration → Type 0
ConfigurationInPlace c =
    (v : Version) (d : List ℕ) (n : ℕ) → answer (configuration_plan v c) d ≡ Ok n → (b : Bool) →
    ConfigurationBack c (read_configuration_by v (head_by b) (take n (after (configuration_plan v c) d)))
