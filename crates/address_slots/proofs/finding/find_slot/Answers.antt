-- The board's own place comes first; else the marks lead.
use Rattle.address_slots.proofs.Passing.{board-at, board-none, sought-held, sought-free}
use Rattle.address_slots.proofs.finding.find_slot.Goals as goal

pub returns-in-Some : goal.returns-in-Some
returns-in-Some c =
    let a = c.args in
    let room = c.fit-room in
    let at = board-at a.board.now room.result a.memory.now c.in-Some.held c.in-Some.ensures in
    rw (← room.ensures) (sought-held a.marks a.board.now room.result a.memory.now c.in-Some.held at.0 at.1)

pub returns-in-None : goal.returns-in-None
returns-in-None c =
    let a = c.args in
    let room = c.fit-room in
    rw (← room.ensures)
    (sought-free a.marks a.board.now room.result a.memory.now (board-none a.board.now room.result a.memory.now c.in-None.ensures)
    c.find_marked.result c.find_marked.ensures)
