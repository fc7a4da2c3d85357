-- The value is that of the bytes so far.
use Rattle.std.proofs.Common.{arith}
use Rattle.byte_io.specs.BigEndianLemmas.{read_none, read_more, read_fits, read_all}
use Rattle.byte_io.proofs.number.number_of.Goals as goal

pub loop-byte-init : goal.loop-byte-init
loop-byte-init c = read_none c.args.bytes.now

pub overflow_mul-value : goal.overflow_mul-value
overflow_mul-value c =
    let l = c.loop-byte in
    omega (arith, read_fits c.args.bytes.now l.byte-index l.value 0 l.invariant (omega arith) (omega arith))

pub overflow_add-value : goal.overflow_add-value
overflow_add-value c =
    let l = c.loop-byte in
    record { fits = read_fits c.args.bytes.now l.byte-index l.value _ l.invariant (omega arith) (omega (arith, c.type_inv.bytes l.byte-index)) }

pub loop-byte-preserved : goal.loop-byte-preserved
loop-byte-preserved c =
    let l = c.loop-byte in
    read_more c.args.bytes.now l.byte-index l.value l.invariant c.loop-byte-test.true (omega (arith, c.type_inv.bytes l.byte-index))

pub returns : goal.returns
returns c =
    let l = c.loop-byte in
    read_all c.args.bytes.now l.byte-index l.value l.invariant c.loop-byte-test.false
