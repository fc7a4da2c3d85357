-- The laws, which the two functions ensure, are applied to the calls of the example.
use Rattle.node_history_laws.proofs.counters.Example.{witness}
use Rattle.node_history_laws.proofs.counters.counters_example.Goals as goal

pub returns : goal.returns
returns c = witness c.counters_rise_law.ensures c.counters_reserved_law.ensures
