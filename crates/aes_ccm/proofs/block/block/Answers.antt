-- The bytes stand at the front of sixteen zeros.
use Rattle.aes_ccm.proofs.Blocks.{padded}
use Rattle.aes_ccm.proofs.block.block.Goals as goal

pub returns : goal.returns
returns c = rw c.copy_from_slice.ensures.after (padded c.args.s.now c.requires)
