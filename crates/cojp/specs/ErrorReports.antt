-- Reports of parameters that could not be acted on (RFC 9031): an error code, 0 unsupported or 1 malformed, and a label.
use Rattle.std.specs.Prelude.{ℕ, ◌+◌, Bool, cond, ◌&&◌, ◌||◌, List, leb, ltb, eqb, take, set, replicate}
use Rattle.link_key.specs.set.Lists.{all_of}
use Rattle.protocol_version.specs.Version.{by_version}
use Rattle.cojp.specs.declared.error_report.ErrorReport.{ErrorReport}
use Rattle.cojp.specs.declared.error_report.ErrorReports.{ErrorReports}
use Rattle.protocol_version.specs.declared.Version.{Version}

abbrev pub error_report_of : ℕ → ℕ → ErrorReport
error_report_of code label = record { code = code; label = label }

abbrev pub no_error_reports : ErrorReports
no_error_reports = record { count = 0; reports = replicate 5 (error_report_of 0 0) }

-- the reports, in their order
abbrev pub error_report_list : ErrorReports → List ErrorReport
error_report_list f = take f.count f.reports

-- ---- reports that a configuration can get
-- the labels of a published configuration: key set, short address, JRC address, blacklist, join rate
abbrev pub is_reportable : ℕ → Bool
is_reportable n = (eqb n 2 || eqb n 3 || eqb n 4 || eqb n 6 || eqb n 7)

abbrev pub valid_error_report : ErrorReport → Bool
valid_error_report x = (leb x.code 1 && is_reportable x.label)

-- five at most
unfoldable pub valid_error_reports : ErrorReports → Bool
valid_error_reports f = (leb f.count 5 && all_of valid_error_report (error_report_list f))

-- in the draft there are none
unfoldable pub error_reports_valid : Version → ErrorReports → Bool
error_reports_valid v f = by_version v (eqb f.count 0) (valid_error_reports f)

-- ---- one more at the end; there are never more than five, since a known label comes once
unfoldable pub added : ErrorReports → ℕ → ℕ → ErrorReports
added f code label =
    cond (ltb f.count 5) (record { count = f.count + 1; reports = set f.reports f.count (error_report_of code label) }) f
