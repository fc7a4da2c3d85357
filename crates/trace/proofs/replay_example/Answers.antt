-- The replay is computed; the walk gives the same by `replay_exact_law`.
use Rattle.trace.proofs.ReplayRun.{six-replayed}
use Rattle.trace.proofs.replay_example.Goals as goal

pub returns : goal.returns
returns c = six-replayed c.replay_exact_law.ensures
