-- The length in two bytes and the first of the data, at the front of sixteen zeros.
use Rattle.std.proofs.Common.{◌∙◌, arith}
use Rattle.aes_ccm.proofs.Blocks.{headed-front, two-bytes}
use Rattle.aes_ccm.proofs.block.headed_block.Goals as goal

pub returns : goal.returns
returns c =
    headed-front c.args.a.now c.copy_from_slice.new.self c.copy_from_slice-2.new.self c.min-count.result c.requires.0 c.min-count.ensures
    (c.copy_from_slice.ensures.after ∙ c.to_be_bytes.ensures ∙ two-bytes _ (omega arith)) c.copy_from_slice-2.ensures.after
