-- Both follow from what `cbor::laws` ensures of a payload.
use Rattle.cojp.proofs.Strict.{strict-readers}
use Rattle.cojp.proofs.strict_readers_law.Goals as goal

pub returns : goal.returns
returns c = strict-readers c.laws.ensures
