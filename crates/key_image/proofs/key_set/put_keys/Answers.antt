-- One key more is written behind those before it.
use Rattle.std.proofs.Common.{arith}
use Rattle.image.specs.PartLemmas.{write_next}
use Rattle.key_image.specs.Key.{key_part}
use Rattle.key_image.proofs.key_set.put_keys.Goals as goal

pub loop-i-preserved : goal.loop-i-preserved
loop-i-preserved c =
    let l = c.loop-i in
    write_next key_part c.args.keys.now l.i _ (omega (arith, c.told-keys, c.loop-i-test.true)) (omega arith) l.invariant c.put_key.ensures
