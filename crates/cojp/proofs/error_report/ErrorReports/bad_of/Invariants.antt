-- What is still to be reported from here on is what was to be reported from the start.
use Rattle.std.proofs.Common.{◌≡◌, drop}
use Rattle.cojp.specs.Reported.{reports_on}
use Rattle.cojp.proofs.error_report.ErrorReports.bad_of.Given as goal

abbrev pub invariant-loop-report : goal.invariant-loop-report
invariant-loop-report l = reports_on l.bad l.initial.out l.report-items ≡ reports_on l.bad l.out (drop l.report-index l.report-items)
