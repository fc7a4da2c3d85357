-- No prefix; then the blacklist is judged on its bytes, if there is one.
use Prim.Native.Nat.{◌+◌, ◌-◌}
use native.Mathlib.Omega.{arith}
use Rattle.lemmas.specs.logic.Tests.{is_true, is_false}
use Rattle.capi_judge.proofs.Judged.{list-long, list-so}
use Rattle.capi_judge.proofs.state.published_valid.Goals as goal

pub returns-then-len-gt253 : goal.returns-then-len-gt253
returns-then-len-gt253 c =
    list-long c.args.s.now c.requires (is_false c.bool_at.ensures c.if-bool_at.false)
    (is_true c.bool_at-2.ensures c.if-not-bool_at.false) c.from-count.result c.from-len.result
    c.from-count.ensures
    c.from-len.ensures c.if-len-gt253.true

pub returns : goal.returns
returns c =
    list-so c.args.s.now c.requires (is_false c.bool_at.ensures c.if-bool_at.false)
    (is_true c.bool_at-2.ensures c.if-not-bool_at.false) c.from-count.result c.from-len.result
    c.from-count.ensures
    c.from-len.ensures ((605 + c.from-len.result) - 605) (omega arith) c.if-len-gt253.false c.is_blacklist_in.ensures
