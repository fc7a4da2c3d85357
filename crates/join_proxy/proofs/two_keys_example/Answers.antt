-- By the laws.
use Rattle.join_proxy.proofs.Played.{day}
use Rattle.join_proxy.proofs.two_keys_example.Goals as goal

pub returns : goal.returns
returns c = day c.laws.ensures
