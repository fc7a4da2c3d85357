-- By the one way in which a record is taken.
use Rattle.address_journal_laws.proofs.Damaged.{damage-found}
use Rattle.address_journal_laws.proofs.damage_found_law.Goals as goal

pub returns : goal.returns
returns c = damage-found
