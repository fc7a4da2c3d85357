-- From each byte string on the list is judged as from the first.
use Rattle.std.proofs.Common.{sym, ◌∙◌, arith}
use Rattle.lemmas.specs.logic.Tests.{is_true, is_false}
use Rattle.capi_judge.proofs.Strings.{kept-not, kept-so, inside, turn-not, turn-yes, turn-broken, made-end, counted}
use Rattle.capi_judge.proofs.list.is_blacklist_in.Goals as goal

pub returns-then-s-gt253 : goal.returns-then-s-gt253
returns-then-s-gt253 c =
    kept-not c.args.count c.args.s.now c.if-s-gt253.true

pub loop-left-init : goal.loop-left-init
loop-left-init c =
    (omega arith, kept-so c.args.count c.args.s.now c.if-s-gt253.false)

pub returns-then-not-is_short_at : goal.returns-then-not-is_short_at
returns-then-not-is_short_at c =
    let turn = c.loop-left in
    let some = c.loop-left-test.true in
    let m = counted c.args.s.now turn.at turn.left _ some c.member_at.ensures in
    sym (turn.invariant.1
    ∙ turn-not c.laws.ensures c.args.s.now turn.at turn.left _ m some _ _ c.in-Bytes.is c.if-s-gt253.false
    (is_false c.is_short_at.ensures c.if-not-is_short_at.true))

pub loop-left-preserved : goal.loop-left-preserved
loop-left-preserved c =
    let turn = c.loop-left in
    let some = c.loop-left-test.true in
    let m = counted c.args.s.now turn.at turn.left _ some c.member_at.ensures in (
      (inside c.laws.ensures c.args.s.now turn.at turn.left _ m some _ _ c.in-Bytes.is c.if-s-gt253.false).0,
      turn.invariant.1
          ∙ turn-yes c.laws.ensures c.args.s.now turn.at turn.left _ m some _ _ c.in-Bytes.is c.if-s-gt253.false turn.invariant.0
          (is_true c.is_short_at.ensures c.if-not-is_short_at.false),
    )

pub returns-in_default : goal.returns-in_default
returns-in_default c =
    let turn = c.loop-left in
    let some = c.loop-left-test.true in
    let m = counted c.args.s.now turn.at turn.left _ some c.member_at.ensures in
    sym (turn.invariant.1 ∙ turn-broken c.laws.ensures c.args.s.now turn.at turn.left _ m some c.in_default.not-Bytes)

pub returns : goal.returns
returns c =
    made-end c.args.s.now c.loop-left.at c.loop-left.left (omega (arith, c.loop-left-test.false)) c.loop-left.invariant.0
    ∙ sym c.loop-left.invariant.1
