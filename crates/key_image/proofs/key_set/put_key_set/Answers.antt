-- The count, and then the keys.
use Rattle.std.proofs.Common.{arith}
use Rattle.image.specs.Fields.{next_field}
use Rattle.key_image.proofs.key_set.put_key_set.Goals as goal

pub returns : goal.returns
returns c = next_field (omega arith) c.put_number.ensures c.put_keys.ensures
