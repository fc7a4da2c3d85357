-- One counter more is written behind those before it.
use Rattle.std.proofs.Common.{arith}
use Rattle.image.specs.PartLemmas.{write_next}
use Rattle.image.specs.Part.{number}
use Rattle.key_image.proofs.counted_set.put_counters.Goals as goal

pub loop-i-preserved : goal.loop-i-preserved
loop-i-preserved c =
    let l = c.loop-i in
    write_next (number 4) c.args.counters.now l.i _ (omega (arith, c.told-counters, c.loop-i-test.true)) (omega arith) l.invariant c.put_number.ensures
