-- Each field is written to the part after those before it.
use native.Mathlib.Omega.{arith}
use Rattle.image.specs.Fields.{next_field}
use Rattle.object_image.proofs.Put.{address-wrote}
use Rattle.object_image.proofs.address.put_short_address.Goals as goal

pub returns : goal.returns
returns c =
    let w = next_field (omega arith) c.put_array.ensures c.put_bool.ensures in
    address-wrote c.args.address (next_field (omega arith) w c.put_number.ensures)
