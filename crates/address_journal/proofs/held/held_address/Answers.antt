-- The verdict decides; an accepted range has the slots that count.
use Rattle.std.proofs.lemmas.Result.{err_from_is_err_and}
use lib.ListN.{length}
use Rattle.address_ledger.proofs.range.Judged.{usable, counted_is}
use Rattle.address_journal.proofs.Holding.{address-refused, address-accepted}
use Rattle.address_journal.proofs.held.held_address.Goals as goal

pub held_in-requires : goal.held_in-requires
held_in-requires c =
    let a = c.args in
    let accepted = c.in_ok-judge.ensures in
    let n = counted_is a.ledger.first a.ledger.size (length a.memory.now) accepted c.count.result c.count.ensures in
    usable a.ledger.first a.ledger.size (length a.memory.now) accepted c.count.result n

pub returns-in_err-judge : goal.returns-in_err-judge
returns-in_err-judge c =
    let a = c.args in
    let p = err_from_is_err_and c.from_residual.result c.from_residual.ensures.1 in
    rw (p.1, p.2) (address-refused a.ledger a.memory.now a.board.now c.in_err-judge.field-0.0 c.in_err-judge.ensures)

pub returns : goal.returns
returns c =
    let a = c.args in
    let accepted = c.in_ok-judge.ensures in
    let n = counted_is a.ledger.first a.ledger.size (length a.memory.now) accepted c.count.result c.count.ensures in
    address-accepted a.ledger a.memory.now a.board.now accepted c.count.result n c.held_in.result c.held_in.ensures
