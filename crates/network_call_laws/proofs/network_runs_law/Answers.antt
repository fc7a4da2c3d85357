-- Each event does to the structs what it does to the network's nodes: a call as the law of one node's calls says, a turn call by call.
use Rattle.network_call_laws.proofs.Networks.{network-runs}
use Rattle.network_call_laws.proofs.network_runs_law.Goals as goal

pub returns : goal.returns
returns c =
    network-runs c.number_range_law.ensures c.laws-2.ensures c.laws.ensures c.node_runs_law.ensures
    c.calls_valid_law.ensures c.laws-3.ensures.node
