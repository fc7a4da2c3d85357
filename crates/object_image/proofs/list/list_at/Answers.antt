-- The fields stand one after the other.
use Rattle.object_image.proofs.Got.{list-here}
use Rattle.object_image.proofs.list.list_at.Goals as goal

pub returns : goal.returns
returns c =
    list-here c.args.s.now c.args.at c.number_at.ensures c.number_at-2.ensures
    c.array_at.ensures
