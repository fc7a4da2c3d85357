-- The last byte decides first. Then what is left to compare from byte i on decides: one byte that differs ends the walk, and after eight
-- nothing is left.
use mathlib.Core.Path.{sym, ◌∙◌}
use native.Mathlib.Omega.{arith}
use borrow.Author.Tests.{eq-eqb, ne_eqb}
use Rattle.address_slots.proofs.Scan.{same_step, same_end, last-differs}
use Rattle.address_slots.proofs.slot.is_board.Goals as goal

pub returns-then-memory-at : goal.returns-then-memory-at
returns-then-memory-at c = let a = c.args in
    last-differs a.at a.memory.now a.board.now c.if-memory-at.true

pub returns-then-memory-at-2 : goal.returns-then-memory-at-2
returns-then-memory-at-2 c =
    let a = c.args in
    let turn = c.loop-i in
    rw (turn.invariant, same_step 8 a.at turn.i a.memory.now a.board.now (omega arith), ne_eqb _ _ c.if-memory-at-2.true)

pub loop-i-preserved : goal.loop-i-preserved
loop-i-preserved c =
    let a = c.args in
    let turn = c.loop-i in
    turn.invariant ∙ rw (same_step 8 a.at turn.i a.memory.now a.board.now (omega arith), eq-eqb _ _ c.if-memory-at-2.false)

pub returns : goal.returns
returns c =
    let a = c.args in
    let turn = c.loop-i in
    sym (turn.invariant ∙ same_end a.at turn.i a.memory.now a.board.now (omega arith))
