-- Each field is written to the part after those before it.
use native.Mathlib.Omega.{arith}
use Rattle.image.specs.Fields.{next_field}
use Rattle.node_image.proofs.state.put_sets.Goals as goal

pub returns : goal.returns
returns c =
    next_field (omega arith) c.put_counted_set.ensures c.put_counted_set-2.ensures
