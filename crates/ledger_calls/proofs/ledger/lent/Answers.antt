-- The board's length and the image, as in the definition.
use Rattle.std.proofs.Common.{sym, ◌∙◌}
use Rattle.image.proofs.Lent.{whole}
use Rattle.lemmas.specs.logic.Tests.{is_true as so}
use Rattle.ledger_calls.proofs.Ledgers.{lent-both, no-image, no-board}
use Rattle.ledger_calls.proofs.ledger.lent.Goals as goal
use Rattle.ledger_calls.proofs.ledger.lent.Goals.{else-board-eq8-via-then-board-eq8+else-is_ledger, else-board-eq8-via-else-board-eq8}

pub returns-then-is_ledger : goal.returns-then-is_ledger
returns-then-is_ledger c =
    lent-both c.args.ledger.now c.args.board.now c.if-board-eq8.true (so c.is_ledger.ensures c.if-is_ledger.true) c.ledger_in.result
    c.ledger_in.ensures c.array_at.result (whole 8 c.args.board.now c.if-board-eq8.true c.array_at.ensures)

pub returns : goal.returns
returns c =
    let s = c.args.ledger.now in
    let b = c.args.board.now in
    elim c.else-board-eq8.branch [
      | else-board-eq8-via-then-board-eq8+else-is_ledger w ↦ no-image s b (sym w.is_ledger.ensures ∙ w.if-is_ledger.false)
      | else-board-eq8-via-else-board-eq8 w ↦ no-board s b w.if-board-eq8.false
    ]
