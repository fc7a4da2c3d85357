-- By the verdict alone.
use Rattle.node_calls.proofs.Keeps.{refusals-keep}
use Rattle.node_calls.proofs.refusals_keep_law.Goals as goal

pub returns : goal.returns
returns c = refusals-keep
