-- Demand 3's lists are among those of `rekey_amid_updates_law`.
use Rattle.network.specs.PartialRekey.{SomeKeyUsable}
use Rattle.network.proofs.Rekey.{fewer-lists}
use Rattle.network.proofs.rekey_while_usable_law.Goals as goal

pub returns : goal.returns
returns c = fewer-lists SomeKeyUsable c.rekey_amid_updates_law.ensures.usable
