-- Each field is written to the part after those before it.
use native.Mathlib.Omega.{arith}
use Rattle.image.specs.Fields.{next_field}
use Rattle.object_image.proofs.Objects.{later-request-wrote}
use Rattle.object_image.proofs.request.put_later.Goals as goal

pub returns : goal.returns
returns c =
    let w =
    next_field (omega arith) c.put_list_parameter.ensures c.put_error_reports.ensures in
    later-request-wrote c.args.request (next_field (omega arith) w c.put_number.ensures)
