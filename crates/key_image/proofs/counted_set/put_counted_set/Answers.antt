-- The key set, and then the counters.
use Rattle.std.proofs.Common.{arith}
use Rattle.image.specs.Fields.{next_field}
use Rattle.key_image.proofs.counted_set.put_counted_set.Goals as goal

pub returns : goal.returns
returns c = next_field (omega arith) c.put_key_set.ensures c.put_counters.ensures
