-- Parameter by parameter: proofs/merge/Applied.antt, by the laws of counted sets.
use Rattle.node_history_laws.proofs.merge.Applied.{merged-applies}
use Rattle.node_history_laws.proofs.merge.merged_applies_law.Goals as goal

pub returns : goal.returns
returns c = merged-applies c.laws.ensures
