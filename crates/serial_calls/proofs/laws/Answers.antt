-- The image is lawful by its table.
use Rattle.serial_calls.proofs.Images.{serial-images}
use Rattle.serial_calls.proofs.laws.Goals as goal

pub returns : goal.returns
returns c = serial-images c.laws.ensures.bool
