-- proofs/Steps.antt has it, by what the first byte of a record says.
use Rattle.trace.proofs.Steps.{steps-say}
use Rattle.trace.proofs.progress_law.Goals as goal

pub returns : goal.returns
returns c = steps-say c.kind_law.ensures
