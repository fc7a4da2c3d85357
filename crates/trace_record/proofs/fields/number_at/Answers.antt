-- The invariant: the value read so far and the bytes still to come make the whole number.
use Rattle.std.proofs.Common.{◌+◌, ◌-◌, ◌∙◌, sym, take, drop, get_or, arith}
use Rattle.trace_record.proofs.Numbers.{number_step, number-end, below-eight, part-byte}
use Rattle.lemmas.specs.lists.BigEndian.{grows, grown-fits}
use Rattle.trace_record.proofs.fields.number_at.Goals as goal

pub overflow_mul-value : goal.overflow_mul-value
overflow_mul-value c =
    let l = c.loop-byte in
    let i = below-eight c.args.n c.args.at c.args.s.now l.byte-index c.requires.0 c.loop-byte-test.true in
    let f = grown-fits l.value 0 l.byte-index l.invariant.0 (omega arith) i in
    record { fits = omega (arith, f) }

pub overflow_add-value : goal.overflow_add-value
overflow_add-value c =
    let l = c.loop-byte in
    let a = c.args in
    let i = below-eight a.n a.at a.s.now l.byte-index c.requires.0 c.loop-byte-test.true in
    let b = part-byte a.n a.at a.s.now l.byte-index (λ k. (c.type_inv.s k).fits) c.loop-byte-test.true in
    record { fits = rw c.from.ensures (grown-fits l.value _ l.byte-index l.invariant.0 b i) }

pub loop-byte-preserved : goal.loop-byte-preserved
loop-byte-preserved c =
    let l = c.loop-byte in
    let a = c.args in
    let part = take (a.at + a.n - a.at) (drop a.at a.s.now) in
    let b = part-byte a.n a.at a.s.now l.byte-index (λ k. (c.type_inv.s k).fits) c.loop-byte-test.true in
    rw c.from.ensures (
      grows l.value (get_or part l.byte-index 0) l.byte-index l.invariant.0 b,
      sym (number_step l.value l.byte-index part c.loop-byte-test.true) ∙ l.invariant.1,
    )

pub returns : goal.returns
returns c =
    let l = c.loop-byte in
    number-end l.value l.byte-index c.args.n c.args.s.now c.args.at c.loop-byte-test.false l.invariant.1
