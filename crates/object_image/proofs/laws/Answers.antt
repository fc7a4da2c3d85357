-- Each image is lawful by its table, since key sets are.
use Rattle.object_image.proofs.Images.{object-images}
use Rattle.object_image.proofs.laws.Goals as goal

pub returns : goal.returns
returns c = object-images c.laws.ensures.key_set
