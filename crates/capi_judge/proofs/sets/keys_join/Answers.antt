-- From each key on it is asked as from the first.
use Rattle.std.proofs.Common.{rules}
use Rattle.lemmas.specs.logic.Tests.{is_true, is_false}
use Rattle.capi_judge.proofs.Together.{gets-from, asked-on, may-not, joins-not}
use Rattle.capi_judge.proofs.sets.keys_join.Goals as goal

pub loop-i-preserved : goal.loop-i-preserved
loop-i-preserved c =
    let n = gets-from c.args.src.now c.args.at c.args.count c.loop-i.i (search rules) in
    asked-on c.args.allowed _ _ _ _ _ _ n c.loop-i.invariant (is_true c.info_allowed.ensures c.if-not-info_allowed.false)
    (is_true c.key_joins.ensures.told c.if-not-key_joins.false) c.key_joins.ensures.after

pub returns-then-not-info_allowed-clause-told : goal.returns-then-not-info_allowed-clause-told
returns-then-not-info_allowed-clause-told c =
    let n = gets-from c.args.src.now c.args.at c.args.count c.loop-i.i (search rules) in
    may-not c.args.allowed _ _ _ _ _ _ n c.loop-i.invariant (is_false c.info_allowed.ensures c.if-not-info_allowed.true)

pub returns-then-not-key_joins-clause-told : goal.returns-then-not-key_joins-clause-told
returns-then-not-key_joins-clause-told c =
    let n = gets-from c.args.src.now c.args.at c.args.count c.loop-i.i (search rules) in
    joins-not c.args.allowed _ _ _ _ _ _ n c.loop-i.invariant (is_true c.info_allowed.ensures c.if-not-info_allowed.false)
    (is_false c.key_joins.ensures.told c.if-not-key_joins.true)
