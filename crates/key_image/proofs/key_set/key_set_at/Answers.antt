-- The keys stand behind the count.
use Rattle.key_image.proofs.Images.{set-got}
use Rattle.key_image.proofs.key_set.key_set_at.Goals as goal

pub returns : goal.returns
returns c = set-got c.args.src.now c.args.at c.number_at.ensures c.keys_at.ensures
