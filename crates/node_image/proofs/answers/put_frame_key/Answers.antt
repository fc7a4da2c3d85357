-- Each field is written to the part after those before it, and together they fill the struct.
use mathlib.Core.List.{[], ◌∷◌}
use mathlib.Core.Path.{◌∙◌}
use native.Mathlib.Omega.{arith}
use Rattle.byte_io.specs.BigEndian.{bytes_of}
use Rattle.image.specs.Fields.{next_field, whole-struct, two_fields}
use Rattle.key_image.specs.Key.{key_part}
use Rattle.node_image.proofs.answers.put_frame_key.Goals as goal

pub returns : goal.returns
returns c =
    let w1 = next_field (omega arith) c.put_head.ensures c.put_key.ensures in
    let w2 = next_field (omega arith) w1 c.put_number.ensures in
    whole-struct c.requires w2 ∙ two_fields (0x4b ∷ 1 ∷ []) (key_part.put c.args.key) (bytes_of 4 c.args.counter)
