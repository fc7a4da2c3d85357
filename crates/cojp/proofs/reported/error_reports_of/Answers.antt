-- Those of what came whose parameter was bad.
use Rattle.cojp.specs.Reported.{error_reports_of}
use Rattle.cojp.proofs.reported.error_reports_of.Goals as goal

pub returns : goal.returns
unfolding error_reports_of
returns c = rw (← c.bad_in.ensures) c.bad_of.ensures
