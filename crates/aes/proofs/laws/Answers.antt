-- The laws stand in `Inverse`.
use Rattle.aes.proofs.Inverse.{aes-laws}
use Rattle.aes.proofs.laws.Goals as goal

pub returns : goal.returns
returns c = aes-laws
