-- Each field is written to the part after those before it.
use native.Mathlib.Omega.{arith}
use Rattle.byte_io.specs.BigEndian.{bytes_of}
use Rattle.image.specs.Fields.{next_field, two_fields, wrote-same}
use Rattle.object_image.specs.Address.{short_address_part}
use Rattle.object_image.specs.Codes.{bool_part}
use Rattle.node_image.proofs.held.put_held_address.Goals as goal

pub returns : goal.returns
returns c =
    let w1 = next_field (omega arith) c.put_bool.ensures c.put_short_address.ensures in
    let together = two_fields (bool_part.put c.args.address.held) (short_address_part.put c.args.address.value) (bytes_of 8 c.args.address.received) in
    wrote-same together (next_field (omega arith) w1 c.put_number.ensures)
