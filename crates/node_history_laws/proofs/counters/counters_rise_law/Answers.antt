-- The law follows from the laws of keys, of counted sets and of the node: proofs/counters/Rising.antt goes along the calls.
use Rattle.node_history_laws.proofs.counters.Rising.{counters-rise}
use Rattle.node_history_laws.proofs.counters.counters_rise_law.Goals as goal

pub returns : goal.returns
returns c =
    counters-rise c.laws.ensures c.laws-2.ensures c.kept_counters_law.ensures c.laws-3.ensures c.answers_law.ensures
