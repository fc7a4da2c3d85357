-- The verdict decides; an accepted range has the slots that count.
use mathlib.Core.Path.{sym, ◌∙◌}
use lib.ListN.{length}
use Rattle.address_ledger.proofs.range.Judged.{usable, counted_is}
use Rattle.address_journal.proofs.Dues.{due-refused, due-accepted}
use Rattle.address_journal.proofs.due.grant_due.Goals as goal

pub grant_due_in-requires : goal.grant_due_in-requires
grant_due_in-requires c =
    let a = c.args in
    let accepted = sym c.in-Ok.is ∙ c.judge.ensures in
    let n = counted_is a.ledger.first a.ledger.size (length a.memory.now) accepted c.count.result c.count.ensures in
    usable a.ledger.first a.ledger.size (length a.memory.now) accepted c.count.result n

pub returns-in-Err : goal.returns-in-Err
returns-in-Err c =
    due-refused c.args.ledger c.args.memory.now c.args.board.now c.in-Err.field-0 (sym c.in-Err.is
    ∙ c.judge.ensures)

pub returns-in-Ok : goal.returns-in-Ok
returns-in-Ok c =
    let a = c.args in
    let accepted = sym c.in-Ok.is ∙ c.judge.ensures in
    let n = counted_is a.ledger.first a.ledger.size (length a.memory.now) accepted c.count.result c.count.ensures in
    due-accepted a.ledger a.memory.now a.board.now accepted c.count.result n c.grant_due_in.result
    c.grant_due_in.ensures
