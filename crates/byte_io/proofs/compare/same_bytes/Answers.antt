-- A byte that differs decides. Where bytes agree the rest decides, and at the end nothing is left.
use Rattle.std.proofs.Common.{sym, ◌∙◌, arith}
use Rattle.byte_io.proofs.Comparison.{same-lengths, differ_at, agree_at, same_stop}
use Rattle.byte_io.proofs.compare.same_bytes.Goals as goal

pub returns-then-a-b : goal.returns-then-a-b
returns-then-a-b c = sym (same-lengths c.args.a.now c.args.b.now c.if-a-b.true)

pub returns-then-a-i : goal.returns-then-a-i
returns-then-a-i c = sym (differ_at c.args.a.now c.args.b.now _ _ c.if-a-i.true (omega arith))

pub loop-i-preserved : goal.loop-i-preserved
loop-i-preserved c =
    let l = c.loop-i in
    l.invariant ∙ agree_at c.args.a.now c.args.b.now l.i _ _ (omega arith) (omega arith) c.if-a-i.false (omega arith) (omega arith)

pub returns : goal.returns
returns c = let l = c.loop-i in sym (l.invariant ∙ same_stop c.args.a.now c.args.b.now l.i (omega arith) (omega arith))
