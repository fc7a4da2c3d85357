-- The nonce and the two bytes of n stand after the flags.
use Rattle.std.proofs.Common.{◌∙◌, rules}
use Rattle.aes_ccm.proofs.Blocks.{framed-bytes, two-bytes}
use Rattle.aes_ccm.proofs.block.framed.Goals as goal

pub returns : goal.returns
returns c =
    framed-bytes c.args.flags c.args.n c.args.nonce c.copy_from_slice.new.self c.copy_from_slice-2.new.self (search rules)
    c.copy_from_slice.ensures.after (c.copy_from_slice-2.ensures.after ∙ c.to_be_bytes.ensures ∙ two-bytes c.args.n (search rules))
