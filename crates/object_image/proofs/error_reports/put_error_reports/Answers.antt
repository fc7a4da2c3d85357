-- The count, and then the reports.
use Rattle.std.proofs.Common.{arith}
use Rattle.image.specs.Fields.{next_field}
use Rattle.object_image.proofs.error_reports.put_error_reports.Goals as goal

pub returns : goal.returns
returns c = next_field (omega arith) c.put_number.ensures c.put_five.ensures
