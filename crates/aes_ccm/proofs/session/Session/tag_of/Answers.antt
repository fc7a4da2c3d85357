-- Each byte of the tag is the chain's byte with the key stream's first block added.
use Rattle.std.proofs.Common.{◌∙◌, get_or, rules}
use Rattle.lemmas.specs.lists.Xor.{◌⊕◌}
use Rattle.lemmas.specs.lists.FromFn.{made-table}
use Rattle.aes_ccm.specs.Ccm.{stream, counter}
use Rattle.aes_ccm.proofs.Streams.{tag-bytes}
use Rattle.aes_ccm.proofs.session.Session.tag_of.Goals as goal

pub returns : goal.returns
unfolding stream counter ◌⊕◌
returns c =
    let t = c.last_of-t in
    let s = c.encrypt_framed-s in
    made-table (λ j. get_or t.result j 0 ⊕ get_or s.result j 0) (λ i y q k. search rules) c.from_fn.ensures.items
    ∙ tag-bytes c.args.self.now.keys c.args.self.now.nonce c.args.a.now c.args.m.now t.result s.result t.ensures s.ensures
