-- A slot that the board holds is one of the counted ones.
use Rattle.std.proofs.Common.{◌<◌, arith}
use Rattle.address_slots.proofs.Passing.{board-at}
use Rattle.address_ledger.proofs.Calls.{board-is}
use Rattle.address_journal.proofs.Holding.{found-some, found-none}
use Rattle.address_journal.proofs.held.held_in.Goals as goal
use Rattle.address_journal.proofs.held.held_in.Goals.{In-Some}

within : (c : In-Some) → c.in-Some.slot < c.args.count
within c =
    let a = c.args in
    let m = a.memory.now in
    let b = a.board.now in
    (board-at b a.count m c.in-Some.slot (board-is a.ledger a.count m b c.requires _ c.in-Some.ensures)).1

pub overflow_add-result : goal.overflow_add-result
overflow_add-result c = record { fits = omega (arith, within (goal.at.overflow_add-result c).In-Some, c.requires.end) }

pub overflow_cast-result : goal.overflow_cast-result
overflow_cast-result c = record { fits = omega (arith, within (goal.at.overflow_cast-result c).In-Some, c.requires.end) }

pub returns-in-Some : goal.returns-in-Some
returns-in-Some c =
    let a = c.args in
    let m = a.memory.now in
    let b = a.board.now in
    found-some a.ledger.first a.count m b c.in-Some.slot (board-is a.ledger a.count m b c.requires _ c.in-Some.ensures)

pub returns-in-None : goal.returns-in-None
returns-in-None c =
    let a = c.args in
    let m = a.memory.now in
    let b = a.board.now in
    found-none a.ledger.first a.count m b (board-is a.ledger a.count m b c.requires _ c.in-None.ensures)
