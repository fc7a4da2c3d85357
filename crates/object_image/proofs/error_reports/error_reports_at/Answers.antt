-- The reports stand behind the count.
use Rattle.object_image.proofs.Got.{reports-here}
use Rattle.object_image.proofs.error_reports.error_reports_at.Goals as goal

pub returns : goal.returns
returns c = reports-here c.args.s.now c.args.at c.number_at.ensures c.five_at.ensures
