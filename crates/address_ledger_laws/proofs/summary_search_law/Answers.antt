-- By the bits of the marks, and by where they lead.
use Rattle.address_ledger_laws.proofs.Marks.{walks-alike}
use Rattle.address_ledger_laws.proofs.summary_search_law.Goals as goal

pub returns : goal.returns
returns c = walks-alike
