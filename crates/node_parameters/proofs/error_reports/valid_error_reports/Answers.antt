-- Their number first, then each of them.
use borrow.Author.Tests.{le-leb, lt-leb}
use Rattle.cojp.specs.ErrorReports.{valid_error_reports}
use Rattle.node_parameters.proofs.error_reports.valid_error_reports.Goals as goal

pub returns-then-reports-le5 : goal.returns-then-reports-le5
unfolding valid_error_reports
returns-then-reports-le5 c = rw (le-leb _ _ c.if-reports-le5.true) c.each_valid.ensures

pub returns-else-reports-le5 : goal.returns-else-reports-le5
unfolding valid_error_reports
returns-else-reports-le5 c = rw (lt-leb _ _ c.if-reports-le5.false)
