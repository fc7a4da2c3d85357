-- What a reader takes is in range: a parameter is taken only where its value is good.
use Rattle.std.specs.Prelude.{◌≡◌, true, List, ℕ, Ok}
use Rattle.cojp.specs.Configuration.{read_configuration_as}
use Rattle.cojp.specs.ErrorReports.{error_reports_valid}
use Rattle.cojp.specs.Reported.{error_reports_of}
use Rattle.cojp.specs.Writing.{keys_in_range, address_in_range, jrc_in_range, octets_in_range, of_version}
use Rattle.cojp.specs.declared.configuration.Configuration.{Configuration}
use Rattle.protocol_version.specs.declared.Version.{Version}

pub record InRange (v : Version) (c : Configuration) : Type 0 where
  pub keys : keys_in_range c.keys ≡ true
  pub address : address_in_range c.address ≡ true
  pub jrc : jrc_in_range c.jrc ≡ true
  pub network : octets_in_range c.network ≡ true
  pub prefix : octets_in_range c.prefix ≡ true
  pub form : of_version v c ≡ true
  -- what came may be reported
  pub met : error_reports_valid v c.labels ≡ true

abbrev pub ReadsInRange : Type 0
ReadsInRange =
    (v : Version) (p : List ℕ) → (read_configuration_as v p).verdict ≡ Ok tt → InRange v (read_configuration_as v p).configuration

-- the reports of a configuration are among what came, so they may be made if what came may be reported
abbrev pub ErrorReportsValid : Type 0
ErrorReportsValid =
    (v : Version) (c : Configuration) → error_reports_valid v c.labels ≡ true → error_reports_valid v (error_reports_of c) ≡ true
