-- Each field stands at its place.
use Rattle.key_image.proofs.Images.{key-got}
use Rattle.key_image.proofs.key.key_at.Goals as goal

pub returns : goal.returns
returns c =
    key-got c.args.src.now c.args.at c.array_at.ensures c.additional_info_at.ensures
