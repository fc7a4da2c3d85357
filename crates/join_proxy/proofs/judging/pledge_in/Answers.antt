-- Each byte of the token is kept or cut.
use Rattle.std.proofs.Common.{get_or, rules, ◌+◌}
use Rattle.std.specs.Prelude.{cond, ltb}
use Rattle.lemmas.specs.lists.FromFn.{made-table}
use Rattle.join_proxy.specs.Judging.{pledge_in}
use Rattle.join_proxy.proofs.judging.pledge_in.Goals as goal

pub returns : goal.returns
unfolding pledge_in
returns c =
    let t = c.args.text in
    let interface = made-table (λ i. get_or t i 0) (λ i y q k. search rules) c.from_fn.ensures.items in
    let token =
    made-table (λ i. cond (ltb i (get_or t 10 0)) (get_or t (11 + i) 0) 0) (λ i y q k. search rules) c.from_fn-2.ensures.items in
    rw (interface, token, c.from_be_bytes.ensures)
