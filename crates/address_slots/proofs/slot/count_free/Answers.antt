-- What was counted and what is left to count are the whole.
use mathlib.Core.Path.{sym, ◌∙◌}
use native.Mathlib.Omega.{arith}
use Rattle.address_slots.proofs.Scan.{count-here, count_next, count-end}
use Rattle.address_slots.proofs.slot.count_free.Goals as goal
use Rattle.address_slots.proofs.slot.count_free.Goals.{then-memory-i-ne-HELD, else-memory-i-ne-HELD}

pub loop-i-preserved : goal.loop-i-preserved
loop-i-preserved c =
    let end = c.args.end in
    let m = c.args.memory.now in
    let x = c.loop-i in
    elim c.if-memory-i-ne-HELD.branch [
      | then-memory-i-ne-HELD w ↦
          (omega arith, x.invariant.1 ∙ count-here end m x.n x.i (omega arith) w.if-memory-i-ne-HELD.true ∙ rw w.n-is)
      | else-memory-i-ne-HELD w ↦
          (omega arith, x.invariant.1 ∙ count_next end m x.n x.i (omega arith) w.if-memory-i-ne-HELD.false ∙ rw w.n-is)
    ]

pub returns : goal.returns
returns c =
    sym (c.loop-i.invariant.1 ∙ count-end c.args.end c.args.memory.now c.loop-i.n c.loop-i.i c.loop-i-test.false)
