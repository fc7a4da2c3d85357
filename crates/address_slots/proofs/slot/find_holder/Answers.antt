-- No place that was passed is the board's, so the lowest one is still to come.
use Rattle.std.proofs.Common.{sym, ◌∙◌}
use Rattle.address_slots.specs.Slot.{held_by}
use Rattle.address_slots.proofs.Scan.{from-found, from-next, from-end}
use Rattle.address_slots.proofs.slot.find_holder.Goals as goal

pub returns-then-holds : goal.returns-then-holds
returns-then-holds c =
    let a = c.args in
    let turn = c.loop-i in
    sym
    (turn.invariant
    ∙ from-found (held_by a.board.now) a.count a.memory.now turn.i c.loop-i-test.true (sym c.holds.ensures ∙ c.if-holds.true))

pub loop-i-preserved : goal.loop-i-preserved
loop-i-preserved c =
    let a = c.args in
    let turn = c.loop-i in
    turn.invariant
    ∙ from-next (held_by a.board.now) a.count a.memory.now turn.i c.loop-i-test.true (sym c.holds.ensures ∙ c.if-holds.false)

pub returns : goal.returns
returns c =
    let a = c.args in
    sym (c.loop-i.invariant ∙ from-end (held_by a.board.now) a.count a.memory.now c.loop-i.i c.loop-i-test.false)
