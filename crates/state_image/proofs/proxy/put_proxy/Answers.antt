-- Each field is written to the part after those before it, and together they fill the struct.
use native.Mathlib.Omega.{arith}
use Rattle.image.specs.Fields.{next_field}
use Rattle.state_image.proofs.Images.{proxy-stored}
use Rattle.state_image.proofs.proxy.put_proxy.Goals as goal

pub returns : goal.returns
returns c =
    let w1 = next_field (omega arith) c.put_head.ensures c.put_array.ensures in
    let w2 = next_field (omega arith) w1 c.put_number.ensures in
    proxy-stored c.args.proxy c.requires c.count_of.ensures w2
