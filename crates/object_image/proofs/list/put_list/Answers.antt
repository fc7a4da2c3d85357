-- Each field is written to the part after those before it.
use native.Mathlib.Omega.{arith}
use Rattle.image.specs.Fields.{next_field}
use Rattle.object_image.proofs.Put.{list_wrote}
use Rattle.object_image.proofs.list.put_list.Goals as goal

pub returns : goal.returns
returns c =
    let w = next_field (omega arith) c.put_number.ensures c.put_number-2.ensures in
    list_wrote c.args.list (next_field (omega arith) w c.put_array.ensures)
