-- The bytes still to come, and what follows them, are the number.
use Rattle.std.proofs.Common.{sym, ◌∙◌, arith}
use Rattle.byte_io.specs.BigEndianLemmas.{bytes_step, bytes_start, bytes_end}
use Rattle.byte_io.proofs.number.put_number.Goals as goal

pub loop-i-init : goal.loop-i-init
loop-i-init c = bytes_start c.args.dst.now c.args.number

pub loop-i-preserved : goal.loop-i-preserved
loop-i-preserved c = let l = c.loop-i in
    sym (bytes_step l.dst l.i l.left c.loop-i-test.true (omega arith)) ∙ l.invariant

pub returns : goal.returns
returns c = let l = c.loop-i in
    sym (bytes_end l.dst l.i l.left c.loop-i-test.false) ∙ l.invariant
