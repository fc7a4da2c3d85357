-- Each field is written to the part after those before it, and together they fill the struct.
use native.Mathlib.Omega.{arith}
use Rattle.image.specs.Fields.{next_field}
use Rattle.object_image.proofs.Objects.{request-stored}
use Rattle.object_image.proofs.request.put_request.Goals as goal

pub returns : goal.returns
returns c =
    let w1 = next_field (omega arith) c.put_head.ensures c.put_byte.ensures in
    let w2 = next_field (omega arith) w1 c.put_octets_parameter.ensures in
    let w3 = next_field (omega arith) w2 c.put_later.ensures in
    request-stored c.args.request c.requires w3
