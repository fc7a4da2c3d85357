-- proofs/Waiting.antt goes by the definitions' tests.
use Rattle.node_laws.proofs.Waiting as laws
use Rattle.node_laws.proofs.waiting_law.Goals as goal

pub returns : goal.returns
returns c = laws.phases
