-- The halves are written after the head, and together they fill the struct.
use native.Mathlib.Omega.{arith}
use Rattle.image.specs.Fields.{next_field}
use Rattle.object_image.proofs.Objects.{configuration-stored}
use Rattle.object_image.proofs.configuration.put_configuration.Goals as goal

pub returns : goal.returns
returns c =
    let w1 = next_field (omega arith) c.put_head.ensures c.put_earlier.ensures in
    let w2 = next_field (omega arith) w1 c.put_later.ensures in
    configuration-stored c.args.configuration c.requires w2
