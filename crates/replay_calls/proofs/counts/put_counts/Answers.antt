-- The count at i is written behind those before it.
use native.Mathlib.Omega.{arith}
use Rattle.byte_io.specs.WriteLemmas.{wrote-length}
use Rattle.replay_calls.proofs.Images.{next-count}
use Rattle.replay_calls.proofs.counts.put_counts.Goals as goal

pub loop-i-preserved : goal.loop-i-preserved
loop-i-preserved c =
    let w = next-count c.args.counts.now c.loop-i.i c.loop-i-test.true (omega arith) c.loop-i.invariant.1 c.put_number.ensures in
    (wrote-length w (omega (arith, w.many)), w)
