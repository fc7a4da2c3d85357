-- Length and bytes stand one after the other.
use Rattle.object_image.proofs.Got.{octets-here}
use Rattle.object_image.proofs.octets.octets_at.Goals as goal

pub returns : goal.returns
returns c =
    octets-here c.args.s.now c.args.at c.number_at.ensures c.array_at.ensures
