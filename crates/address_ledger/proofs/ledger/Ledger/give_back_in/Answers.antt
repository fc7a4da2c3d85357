-- A place that the board holds is one of the counted ones, and its mark is written; else the board is unknown.
use Rattle.std.proofs.Common.{◌<◌, arith, ap}
use Rattle.address_slots.proofs.Passing.{board-at}
use Rattle.address_ledger.specs.declared.ledger.Ledger.{Ledger}
use Rattle.address_ledger.proofs.Calls.{board-is, back-held, back-unknown}
use Rattle.address_ledger.proofs.ledger.Ledger.give_back_in.Goals as goal
use Rattle.address_ledger.proofs.ledger.Ledger.give_back_in.Goals.{In-Some}

within : (c : In-Some) → c.in-Some.place < c.args.count
within c =
    let a = c.args in
    let m = a.memory.now in
    (board-at a.board a.count m c.in-Some.place (board-is a.self a.count m a.board c.requires _ c.in-Some.ensures)).1

pub overflow_mul-memory : goal.overflow_mul-memory
overflow_mul-memory c = record { fits = omega (arith, within (goal.at.overflow_mul-memory c).In-Some, c.requires.size) }

pub bounds-memory-place : goal.bounds-memory-place
bounds-memory-place c = omega (arith, within (goal.at.bounds-memory-place c).In-Some, c.requires.room)

pub address-requires : goal.address-requires
address-requires c =
    omega
    (arith, within (goal.at.address-requires c).In-Some, c.before.before.requires.end, ap (λ (l : Ledger). l.first) c.rewritten.ensures)

pub returns-in-Some : goal.returns-in-Some
returns-in-Some c =
    let a = c.before.before.args in
    let m = a.memory.now in
    let k = c.in-Some.place in
    let at = board-is a.self a.count m a.board c.before.before.requires _ c.in-Some.ensures in
    back-held a.count a.self m a.board c.address.result k at c.rewritten.result (rw c.one_more-free.ensures at c.rewritten.ensures) c.address.ensures

pub returns-in-None : goal.returns-in-None
returns-in-None c =
    let a = c.before.args in
    let m = a.memory.now in
    let at = board-is a.self a.count m a.board c.before.requires _ c.in-None.ensures in
    back-unknown a.count a.self m a.board c.refused.result at c.refused.ensures
