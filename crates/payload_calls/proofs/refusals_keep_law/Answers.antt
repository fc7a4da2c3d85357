-- What a refusal leaves is said by the verdict or the plan alone.
use Rattle.payload_calls.proofs.Keeps.{refusals-keep}
use Rattle.payload_calls.proofs.refusals_keep_law.Goals as goal

pub returns : goal.returns
returns c = refusals-keep
