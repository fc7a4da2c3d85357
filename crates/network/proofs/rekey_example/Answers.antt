-- Demand 3, which `rekey_law` ensures, is applied to the line.
use Rattle.network.proofs.Line.{witness}
use Rattle.network.proofs.rekey_example.Goals as goal

pub returns : goal.returns
returns c = witness c.rekey_law.ensures
