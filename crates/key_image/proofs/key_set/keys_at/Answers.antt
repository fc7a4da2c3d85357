-- One key more is read behind those before it.
use Rattle.std.specs.Prelude.{◌<◌, length, drop}
use Rattle.std.proofs.Common.{arith, ◌∙◌, length-set}
use Rattle.image.specs.PartLemmas.{read_next, read_all}
use Rattle.key_image.specs.Key.{key_part}
use Rattle.key_image.proofs.key_set.keys_at.Goals as goal

pub loop-i-preserved : goal.loop-i-preserved
loop-i-preserved c =
    let l = c.loop-i in
    let h : l.i < length l.keys = omega (arith, l.invariant.0, c.loop-i-test.true) in (
      length-set l.keys l.i c.key_at.result ∙ l.invariant.0,
      read_next key_part c.args.src.now c.args.at l.i l.keys c.key_at.result h l.invariant.1 c.key_at.ensures,
    )

pub returns : goal.returns
returns c =
    let l = c.loop-i in
    read_all key_part (drop c.args.at c.args.src.now) l.i 8 l.keys (omega (arith, l.auto.i-end, c.loop-i-test.false)) l.invariant.0 l.invariant.1
