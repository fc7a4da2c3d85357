-- Each field is written to the part after those before it.
use native.Mathlib.Omega.{arith}
use Rattle.image.specs.Fields.{next_field}
use Rattle.object_image.proofs.Objects.{later-wrote}
use Rattle.object_image.proofs.configuration.put_later.Goals as goal

pub returns : goal.returns
returns c =
    let w1 =
    next_field (omega arith) c.put_list_parameter.ensures
    c.put_rate_parameter.ensures in
    let w2 = next_field (omega arith) w1 c.put_error_reports.ensures in
    let w3 = next_field (omega arith) w2 c.put_number.ensures in
    later-wrote c.args.configuration w3
