-- Computed: proofs/merge/Example.antt.
use Rattle.node_history_laws.proofs.merge.Example.{refused-pair}
use Rattle.node_history_laws.proofs.merge.refused_pair_example.Goals as goal

pub returns : goal.returns
returns c = refused-pair
