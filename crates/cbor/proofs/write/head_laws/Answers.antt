-- The first byte, and the bytes of the argument.
use Rattle.cbor.proofs.HeadLengths.{head-laws}
use Rattle.cbor.proofs.write.head_laws.Goals as goal

pub returns : goal.returns
returns c = head-laws
