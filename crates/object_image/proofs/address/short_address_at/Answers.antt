-- The fields stand one after the other.
use Rattle.object_image.proofs.Got.{address-here}
use Rattle.object_image.proofs.address.short_address_at.Goals as goal

pub returns : goal.returns
returns c =
    address-here c.args.s.now c.args.at c.array_at.ensures c.bool_at.ensures
    c.number_at.ensures
