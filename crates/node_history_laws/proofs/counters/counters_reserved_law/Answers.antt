-- The law of rising counters, at the reserved sendings.
use Rattle.node_history_laws.proofs.counters.Reserved.{counters-reserved}
use Rattle.node_history_laws.proofs.counters.counters_reserved_law.Goals as goal

pub returns : goal.returns
returns c = counters-reserved c.laws.ensures c.counters_rise_law.ensures
