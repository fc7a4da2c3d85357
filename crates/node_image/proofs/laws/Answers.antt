-- Each image is lawful by its table.
use Rattle.node_image.proofs.Images.{node-images}
use Rattle.node_image.proofs.laws.Goals as goal

pub returns : goal.returns
returns c =
    node-images c.laws.ensures c.laws-2.ensures
