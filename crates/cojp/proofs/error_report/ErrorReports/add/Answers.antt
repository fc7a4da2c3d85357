-- The place after the last is written where there is one.
use borrow.Author.Tests.{lt-ltb, le-ltb}
use Rattle.cojp.specs.ErrorReports.{added}
use Rattle.cojp.proofs.error_report.ErrorReports.add.Goals as goal

pub returns-then-out-lt5 : goal.returns-then-out-lt5
unfolding added
returns-then-out-lt5 c = rw (lt-ltb _ _ c.if-out-lt5.true, c.error_report_of.ensures)

pub returns-else-out-lt5 : goal.returns-else-out-lt5
unfolding added
returns-else-out-lt5 c = rw (le-ltb _ _ c.if-out-lt5.false)
