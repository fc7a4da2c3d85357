-- By the form.
use Rattle.cojp.specs.ErrorReports.{error_reports_valid}
use Rattle.node_parameters.proofs.error_reports.error_reports_valid.Goals as goal

pub returns-in-Draft : goal.returns-in-Draft
unfolding error_reports_valid
returns-in-Draft c = rw c.in-Draft.is

pub returns-in-Published : goal.returns-in-Published
unfolding error_reports_valid
returns-in-Published c = rw c.in-Published.is c.valid_error_reports.ensures
