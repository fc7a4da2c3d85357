-- No place that was passed is free, so the lowest free one is still to come.
use Rattle.std.proofs.Common.{◌*◌, sym, ◌∙◌, arith}
use Rattle.address_slots.specs.Slot.{is_free}
use Rattle.address_slots.proofs.Scan.{free-here, free-not, from-found, from-next, from-end}
use Rattle.address_slots.proofs.slot.find_free.Goals as goal

pub returns-then-memory-i-ne-HELD : goal.returns-then-memory-i-ne-HELD
returns-then-memory-i-ne-HELD c =
    let a = c.args in
    let turn = c.loop-i in
    sym
    (turn.invariant ∙ from-found is_free a.end a.memory.now turn.i (omega arith) (free-here (9 * turn.i) a.memory.now c.if-memory-i-ne-HELD.true))

pub loop-i-preserved : goal.loop-i-preserved
loop-i-preserved c =
    let a = c.args in
    let turn = c.loop-i in
    turn.invariant ∙ from-next is_free a.end a.memory.now turn.i (omega arith) (free-not (9 * turn.i) a.memory.now c.if-memory-i-ne-HELD.false)

pub returns : goal.returns
returns c = sym (c.loop-i.invariant ∙ from-end is_free c.args.end c.args.memory.now c.loop-i.i c.loop-i-test.false)
