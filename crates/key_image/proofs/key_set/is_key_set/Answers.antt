-- The keys stand behind the count.
use Rattle.key_image.proofs.Images.{set-judged}
use Rattle.key_image.proofs.key_set.is_key_set.Goals as goal

pub returns : goal.returns
returns c = set-judged c.args.src.now c.args.at c.are_keys.ensures
