-- The first block holds the length and fourteen bytes; the rest is absorbed as any bytes are.
use Rattle.std.proofs.Common.{◌∙◌, ◌-◌, ap, List, ℕ, length, drop, length-drop, take_all, arith}
use Rattle.aes_ccm.specs.Ccm.{blocks, chain}
use Rattle.aes_ccm.proofs.Blocks.{data-step}
use Rattle.aes_ccm.proofs.session.Session.absorb_data.Goals as goal

pub returns : goal.returns
returns c =
    let a = c.args.a.now in
    let n = c.min.result in
    let keys = c.args.self.now.keys in
    c.absorb.ensures
    ∙ ap (λ (l : List ℕ). chain keys c.encrypt-y.result (blocks l))
    (take_all (length a - n) (drop n a) (rw (length-drop n a) (omega arith)))
    ∙ data-step keys c.args.x a n c.requires.0 c.min.ensures c.headed_block.ensures c.add_round_key.ensures c.encrypt-y.ensures
