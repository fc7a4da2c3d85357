-- Where no covering key is used up one is left: then it is what `rekey_while_usable_law` ensures.
use Rattle.network.specs.Events.{Admissible}
use Rattle.network.proofs.Rekey.{some-lack}
use Rattle.network.proofs.partial_rekey_law.Goals as goal

pub returns : goal.returns
returns c = some-lack c.laws.ensures Admissible c.rekey_while_usable_law.ensures
