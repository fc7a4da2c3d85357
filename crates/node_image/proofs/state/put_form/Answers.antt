-- Each field is written to the part after those before it.
use native.Mathlib.Omega.{arith}
use Rattle.image.specs.Fields.{next_field, wrote-same, three-fields}
use Rattle.object_image.specs.ErrorReports.{error_reports_part}
use Rattle.node_image.specs.Held.{held_list_part, held_rate_part}
use Rattle.node_image.specs.Version.{version_part}
use Rattle.node_image.proofs.state.put_form.Goals as goal

pub returns : goal.returns
returns c =
    let w1 = next_field (omega arith) c.put_version.ensures c.put_held_list.ensures in
    let w2 = next_field (omega arith) w1 c.put_held_rate.ensures in
    let together = three-fields (version_part.put c.args.version) (held_list_part.put c.args.blacklist) (held_rate_part.put c.args.rate)
    (error_reports_part.put c.args.faults) in
    wrote-same together (next_field (omega arith) w2 c.put_error_reports.ensures)
