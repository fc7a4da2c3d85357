-- Computed: proofs/merge/Example.antt.
use Rattle.node_history_laws.proofs.merge.Example.{accepted-pair}
use Rattle.node_history_laws.proofs.merge.accepted_pair_example.Goals as goal

pub returns : goal.returns
returns c = accepted-pair
