-- Each image is lawful by its table.
use Rattle.state_image.proofs.Images.{state-images}
use Rattle.state_image.proofs.laws.Goals as goal

pub returns : goal.returns
returns c = state-images
