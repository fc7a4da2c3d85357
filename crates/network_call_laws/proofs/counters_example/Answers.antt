-- The struct holds the node all along, of which `node_history_laws` speaks.
use Rattle.network_call_laws.proofs.Counters.{counters-played}
use Rattle.network_call_laws.proofs.counters_example.Goals as goal

pub returns : goal.returns
returns c =
    counters-played c.number_range_law.ensures c.node_runs_law.ensures c.calls_valid_law.ensures c.laws.ensures.node
    c.laws.ensures.frame-key c.counters_example.ensures
