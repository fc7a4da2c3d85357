-- By the tables.
use Rattle.key_image.proofs.Images.{key-images}
use Rattle.key_image.proofs.laws.Goals as goal

pub returns : goal.returns
returns c = key-images
