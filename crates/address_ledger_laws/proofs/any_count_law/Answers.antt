-- No answer looks at the count.
use Rattle.address_ledger_laws.proofs.Kept.{any-count}
use Rattle.address_ledger_laws.proofs.any_count_law.Goals as goal

pub returns : goal.returns
returns c = any-count
