-- Each field is written to the part after those before it.
use native.Mathlib.Omega.{arith}
use Rattle.image.specs.Fields.{next_field}
use Rattle.object_image.proofs.octets.put_octets.Goals as goal

pub returns : goal.returns
returns c =
    next_field (omega arith) c.put_number.ensures c.put_array.ensures
