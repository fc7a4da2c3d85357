-- Only reports that may be made are added.
use Rattle.cojp.proofs.Faults.{reports-fit}
use Rattle.cojp.proofs.error_reports_valid_law.Goals as goal

pub returns : goal.returns
returns c = reports-fit
