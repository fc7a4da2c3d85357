-- Each field is written to the part after those before it.
use native.Mathlib.Omega.{arith}
use Rattle.image.specs.Fields.{next_field}
use Rattle.object_image.proofs.Objects.{earlier-wrote}
use Rattle.object_image.proofs.configuration.put_earlier.Goals as goal

pub returns : goal.returns
returns c =
    let w1 =
    next_field (omega arith) c.put_keys_parameter.ensures
    c.put_address_parameter.ensures in
    let w2 = next_field (omega arith) w1 c.put_octets_parameter.ensures in
    let w3 = next_field (omega arith) w2 c.put_octets_parameter-2.ensures in
    let w4 = next_field (omega arith) w3 c.put_octets_parameter-3.ensures in
    earlier-wrote c.args.configuration w4
