-- Reports of parameters that could not be acted on, 11 bytes: count 1, then five times error code 1, label 1.
use Rattle.std.specs.Prelude.{ℕ, List}
use Rattle.image.specs.Part.{Part, byte, number, both, viewed, times}
use Rattle.cojp.specs.declared.error_report.ErrorReport.{ErrorReport}
use Rattle.cojp.specs.declared.error_report.ErrorReports.{ErrorReports}

abbrev pub error_report_to : ℕ × ℕ → ErrorReport
error_report_to x = record { code = x.0; label = x.1 }

abbrev pub error_report_from : ErrorReport → ℕ × ℕ
error_report_from f = (f.code, f.label)

abbrev pub error_report_part : Part ErrorReport
error_report_part = viewed (both byte byte) error_report_to error_report_from

abbrev pub error_reports_to : ℕ × List ErrorReport → ErrorReports
error_reports_to x = record { count = x.0; reports = x.1 }

abbrev pub error_reports_from : ErrorReports → ℕ × List ErrorReport
error_reports_from f = (f.count, f.reports)

abbrev pub error_reports_part : Part ErrorReports
error_reports_part = viewed (both (number 1) (times 5 error_report_part)) error_reports_to error_reports_from
