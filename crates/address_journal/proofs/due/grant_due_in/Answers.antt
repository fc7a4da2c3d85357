-- What was found decides, and a slot that was found is one of the counted ones.
use native.Mathlib.Omega.{arith}
use Rattle.address_slots.proofs.Offers.{free-inside-of}
use Rattle.address_ledger.proofs.Calls.{sought-is}
use Rattle.address_journal.proofs.due.grant_due_in.Goals as goal

pub overflow_add-result : goal.overflow_add-result
overflow_add-result c =
    let pre = c.requires in
    let found = sought-is c.args.ledger c.args.count c.args.memory.now c.args.board.now pre _ c.in-Free.ensures in
    omega (
      arith,
      c.requires.end,
      free-inside-of c.args.ledger.summary c.args.board.now c.args.count c.args.memory.now
          c.in-Free.slot found,
    )

pub overflow_cast-result : goal.overflow_cast-result
overflow_cast-result c =
    let pre = c.requires in
    let found = sought-is c.args.ledger c.args.count c.args.memory.now c.args.board.now pre _ c.in-Free.ensures in
    omega (
      arith,
      c.requires.end,
      free-inside-of c.args.ledger.summary c.args.board.now c.args.count c.args.memory.now
          c.in-Free.slot found,
    )
