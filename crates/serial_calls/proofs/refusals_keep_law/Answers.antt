-- What a refusal leaves is said by the verdict and the course alone.
use Rattle.serial_calls.proofs.Keeps.{serial-refusals}
use Rattle.serial_calls.proofs.refusals_keep_law.Goals as goal

pub returns : goal.returns
returns c = serial-refusals c.laws.ensures.bool
