-- proofs/Contiguity.antt has it, by what the first byte of a record says.
use Rattle.trace.proofs.Contiguity.{standing}
use Rattle.trace.proofs.records_contiguous_law.Goals as goal

pub returns : goal.returns
returns c = standing c.kind_law.ensures
