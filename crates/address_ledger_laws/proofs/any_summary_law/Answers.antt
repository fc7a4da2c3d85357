-- By the bits of the marks, and by where they lead.
use Rattle.address_ledger_laws.proofs.Marks.{any-marks}
use Rattle.address_ledger_laws.proofs.any_summary_law.Goals as goal

pub returns : goal.returns
returns c = any-marks
