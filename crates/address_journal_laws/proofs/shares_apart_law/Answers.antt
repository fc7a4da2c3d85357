-- Each part begins where the one before it ends.
use Rattle.address_journal_laws.proofs.Fixtures.{shares-apart}
use Rattle.address_journal_laws.proofs.shares_apart_law.Goals as goal

pub returns : goal.returns
returns c = shares-apart
