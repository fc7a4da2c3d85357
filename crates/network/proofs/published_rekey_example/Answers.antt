-- Demand 3, which `rekey_law` ensures, is applied to the line of the published form.
use Rattle.network.proofs.PublishedLine.{published-witness}
use Rattle.network.proofs.published_rekey_example.Goals as goal

pub returns : goal.returns
returns c = published-witness c.rekey_law.ensures
