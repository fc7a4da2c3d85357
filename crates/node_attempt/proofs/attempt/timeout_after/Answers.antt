-- `timeout_after` meets its contract: what is left to halve answers as the whole does.
use Rattle.std.proofs.Common.{arith, ◌≡◌, ◌-◌, ◌+◌}
use mathlib.Core.Path.{◌∙◌}
use Rattle.node_attempt.proofs.Halves.{halved-even}
use Rattle.node_attempt.proofs.attempt.timeout_after.Goals as goal

pub loop-preserved : goal.loop-preserved
loop-preserved c =
    let one-less : c.args.count - c.loop.counter - 1 ≡ c.args.count - (c.loop.counter + 1) = omega arith in
    c.loop.invariant
    ∙ halved-even (c.args.count - c.loop.counter) c.loop.half (omega (arith, c.loop-test.true)) c.if-half-ne0.false
    ∙ rw one-less
