-- What a configuration of the published form is answered with: a report for each parameter of it that was bad, in payload order.
use Rattle.std.specs.Prelude.{ℕ, Bool, true, false, cond, List, [], ◌∷◌}
use Rattle.cojp.specs.ErrorReports.{no_error_reports, added, error_report_list}
use Rattle.cojp.specs.Parameter.{parameter_of}
use Rattle.cojp.specs.declared.configuration.Configuration.{Configuration}
use Rattle.cojp.specs.declared.error_report.ErrorReport.{ErrorReport}
use Rattle.cojp.specs.declared.error_report.ErrorReports.{ErrorReports}
use Rattle.cojp.specs.declared.parameter.Parameter.{Parameter}
use Rattle.cojp.specs.declared.parameter.Parameter.TheVariants as name
use Rattle.cojp.specs.declared.disposition.Disposition.{Disposition}
use Rattle.cojp.specs.declared.reported.Bad.{Bad}
use Rattle.cojp.specs.declared.disposition.Disposition.TheVariants.{Absent, Taken, Discarded}
use Rattle.protocol_version.specs.declared.Version.TheVariants.{Published}

-- in the payload, and nothing of it was taken
abbrev pub is_bad : Disposition → Bool
is_bad Absent = false
is_bad Taken = false
is_bad Discarded = true

-- which parameters of the published form were bad
abbrev pub bad_in : Configuration → Bad
bad_in c = record {
  keys = is_bad c.keys.disposition;
  address = is_bad c.address.disposition;
  jrc = is_bad c.jrc.disposition;
  blacklist = is_bad c.blacklist.disposition;
  rate = is_bad c.rate.disposition;
}

-- whether what a label names was; the draft's own two are none of the published form's
abbrev pub bad_by : Bad → Parameter → Bool
bad_by b name.Keys = b.keys
bad_by b name.Address = b.address
bad_by b name.Jrc = b.jrc
bad_by b name.Network = false
bad_by b name.Prefix = false
bad_by b name.Blacklist = b.blacklist
bad_by b name.Rate = b.rate
bad_by b name.Unknown = false

abbrev pub bad_at : Bad → ℕ → Bool
bad_at b label = bad_by b (parameter_of Published label)

-- those of the labels that came, after what is there
abbrev pub reports_on : Bad → ErrorReports → List ErrorReport → ErrorReports
reports_on b f [] = f
reports_on b f (x ∷ xs) = reports_on b (cond (bad_at b x.label) (added f x.code x.label) f) xs

unfoldable pub error_reports_of : Configuration → ErrorReports
error_reports_of c = reports_on (bad_in c) no_error_reports (error_report_list c.labels)
