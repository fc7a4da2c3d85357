-- Only the additional information is judged.
use Rattle.key_image.proofs.Images.{key-judged}
use Rattle.key_image.proofs.key.is_key.Goals as goal

pub returns : goal.returns
returns c =
    key-judged c.args.src.now c.args.at c.is_additional_info.ensures
