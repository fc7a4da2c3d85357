-- Demand 3, which `rekey_law` ensures, is applied to the wide line.
use Rattle.network.proofs.WideLine.{wide-witness}
use Rattle.network.proofs.wide_rekey_example.Goals as goal

pub returns : goal.returns
returns c = wide-witness c.rekey_law.ensures
