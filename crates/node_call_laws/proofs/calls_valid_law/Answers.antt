-- By the laws of keys.
use Rattle.node_call_laws.proofs.Fits.{calls-fit}
use Rattle.node_call_laws.proofs.calls_valid_law.Goals as goal

pub returns : goal.returns
returns c = calls-fit c.laws.ensures
