-- With data and without it: the first block has their flags.
use Rattle.std.proofs.Common.{rules}
use Rattle.aes_ccm.proofs.Blocks.{last_none, last_some}
use Rattle.aes_ccm.proofs.session.Session.last_of.Goals as goal

pub returns-then-is_empty : goal.returns-then-is_empty
returns-then-is_empty c =
    let session = c.args.self.now in
    last_none session.keys session.nonce c.args.a.now c.args.m.now c.encrypt_framed-x.result c.absorb.result (search rules)
    c.encrypt_framed-x.ensures c.absorb.ensures

pub returns : goal.returns
returns c =
    let session = c.args.self.now in
    last_some session.keys session.nonce c.args.a.now c.args.m.now c.encrypt_framed-y.result c.absorb_data.result c.absorb-2.result
    (search rules) c.encrypt_framed-y.ensures c.absorb_data.ensures c.absorb-2.ensures
