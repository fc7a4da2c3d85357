-- Demand 3 speaks of the network whose nodes the structs hold.
use Rattle.network_call_laws.proofs.Rekeys.{demand3-in-c}
use Rattle.network_call_laws.proofs.rekey_law.Goals as goal

pub returns : goal.returns
returns c =
    demand3-in-c c.number_range_law.ensures c.laws-2.ensures c.laws.ensures c.node_runs_law.ensures
    c.calls_valid_law.ensures c.laws-3.ensures.node c.laws-3.ensures.frame-key c.rekey_law.ensures
