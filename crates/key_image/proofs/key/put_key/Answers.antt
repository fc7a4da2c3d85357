-- Each field is written to the part after those before it.
use native.Mathlib.Omega.{arith}
use Rattle.image.specs.Fields.{next_field}
use Rattle.key_image.proofs.key.put_key.Goals as goal

pub returns : goal.returns
returns c =
    let w1 = next_field (omega arith) c.put_byte.ensures c.put_byte-2.ensures in
    let w2 = next_field (omega arith) w1 c.put_array.ensures in
    next_field (omega arith) w2 c.put_additional_info.ensures
