-- The network's witness, played on structs.
use Rattle.network_call_laws.proofs.Line.{line-in-c}
use Rattle.network_call_laws.proofs.line_rekey_example.Goals as goal

pub returns : goal.returns
returns c = line-in-c c.network_runs_law.ensures c.rekey_law.ensures c.rekey_example.ensures
