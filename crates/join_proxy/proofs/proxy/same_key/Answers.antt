-- The invariant: the bits found to differ so far, and whether the rest is the same, say whether the keys are.
use Rattle.std.proofs.Common.{◌≡◌, length, arith, rules}
use Rattle.std.proofs.lemmas.Slice.Zip.{zip_turn, zip_end}
use Rattle.std.proofs.lemmas.List.{length_push}
use Rattle.lemmas.specs.lists.SameLemmas.{compare-more, compare-end}
use Rattle.join_proxy.proofs.proxy.same_key.Goals as goal

pub loop-x-preserved : goal.loop-x-preserved
loop-x-preserved c =
    let m : length c.args.a ≡ 16 = search rules in
    let n : length c.args.b ≡ 16 = search rules in
    let turn =
    zip_turn c.args.a c.args.b c.loop-x.yielded c.into_iter-x-iterator.result c.loop-x.x-iterator c.next.new.self c.next.result
    (search rules) (search rules) c.loop-x.yielded_by _ c.in-Some.is c.next.ensures.steps in
    compare-more c.loop-x.invariant turn.0 turn.1 (omega arith) (turn.2 0) (turn.3 0) (length_push c.loop-x.yielded _)

pub returns : goal.returns
returns c =
    let m : length c.args.a ≡ 16 = search rules in
    let n : length c.args.b ≡ 16 = search rules in
    let end =
    zip_end c.args.a c.args.b c.loop-x.yielded c.into_iter-x-iterator.result c.loop-x.x-iterator c.next.new.self c.next.result
    (search rules) (search rules) c.loop-x.yielded_by c.in-None.is c.next.ensures.steps in
    compare-end c.loop-x.invariant (omega arith) (omega arith)
