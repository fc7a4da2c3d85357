-- Each turn reads the next counter, at the offset `at + 4 * i`.
use Rattle.std.specs.Prelude.{◌<◌, length, take, drop}
use Rattle.std.proofs.Common.{arith, ◌∙◌, ap, length-set}
use Rattle.byte_io.specs.BigEndian.{big_endian}
use Rattle.image.specs.PartLemmas.{read_next, read_all}
use Rattle.image.specs.Part.{number}
use Rattle.key_image.proofs.counted_set.counters_at.Goals as goal

pub loop-i-preserved : goal.loop-i-preserved
loop-i-preserved c =
    let l = c.loop-i in
    let h : l.i < length l.counters = omega (arith, l.invariant.0, c.loop-i-test.true) in
    let counter = c.counter_at.ensures ∙ ap (λ k. big_endian (take 4 (drop k c.args.src.now))) (omega arith) in (
      length-set l.counters l.i c.counter_at.result ∙ l.invariant.0,
      read_next (number 4) c.args.src.now c.args.at l.i l.counters c.counter_at.result h l.invariant.1 counter,
    )

pub returns : goal.returns
returns c =
    let l = c.loop-i in
    read_all (number 4) (drop c.args.at c.args.src.now) l.i 8 l.counters (omega (arith, l.auto.i-end, c.loop-i-test.false))
    l.invariant.0 l.invariant.1
