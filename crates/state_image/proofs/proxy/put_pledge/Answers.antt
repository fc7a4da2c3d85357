-- Each field is written to the part after those before it, and together they fill the struct.
use native.Mathlib.Omega.{arith}
use Rattle.image.specs.Fields.{next_field}
use Rattle.state_image.proofs.Images.{pledge-stored}
use Rattle.state_image.proofs.proxy.put_pledge.Goals as goal

pub returns : goal.returns
returns c =
    let w1 = next_field (omega arith) c.put_head.ensures c.put_array.ensures in
    let w2 = next_field (omega arith) w1 c.put_number.ensures in
    let w3 = next_field (omega arith) w2 c.put_byte.ensures in
    let w4 = next_field (omega arith) w3 c.put_array-2.ensures in
    pledge-stored c.args.pledge c.requires w4
