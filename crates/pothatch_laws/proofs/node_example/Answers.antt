-- The law at one list of calls; what is left is computed.
use Rattle.pothatch_laws.proofs.Board as board
use Rattle.pothatch_laws.proofs.node_example.Goals as goal

pub returns : goal.returns
returns c = board.board-seen c.node_runs_law.ensures
