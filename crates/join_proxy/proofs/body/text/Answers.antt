-- The fields stand one after the other, zeros after the token.
use Rattle.std.proofs.Common.{◌≡◌, ◌∙◌, rules, get_or, append-nil}
use Rattle.lemmas.specs.lists.FromFn.{made-table}
use Rattle.join_proxy.specs.Body.{eight}
use Rattle.join_proxy.proofs.Bodies.{text-parts, two-bytes}
use Rattle.join_proxy.proofs.body.text.Goals as goal

pub returns : goal.returns
returns c =
    let token = c.args.token.now in
    let padded : c.from_fn-padded.result ≡ eight token
    = made-table (λ i. get_or token i 0) (λ i y q k. search rules) c.from_fn-padded.ensures.items in
    let port = c.copy_from_slice-2.ensures.after ∙ c.to_be_bytes.ensures ∙ two-bytes c.args.port (search rules) in
    rw (c.copy_from_slice-3.ensures.after, port, c.copy_from_slice.ensures.after, padded, append-nil)
    (text-parts c.args.interface c.args.port token)
