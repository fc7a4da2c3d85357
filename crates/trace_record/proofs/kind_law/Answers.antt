-- The law is proved in `Saying`.
use Rattle.trace_record.proofs.Saying.{entries-say}
use Rattle.trace_record.proofs.kind_law.Goals as goal

pub returns : goal.returns
returns c = entries-say
