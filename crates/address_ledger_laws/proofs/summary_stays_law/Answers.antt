-- By the bits of the marks, and by where they lead.
use Rattle.address_ledger_laws.proofs.Marks.{marks_stay}
use Rattle.address_ledger_laws.proofs.summary_stays_law.Goals as goal

pub returns : goal.returns
returns c = marks_stay
