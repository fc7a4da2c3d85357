-- The mark is stored, then the board's bytes after it.
use Rattle.std.proofs.Common.{rules}
use Rattle.address_slots.proofs.Write.{board-put}
use Rattle.address_slots.proofs.slot.write_slot.Goals as goal

pub returns : goal.returns
returns c =
    let a = c.args in
    board-put a.memory.now a.place a.board _ c.requires.place_in_bounds (search rules) c.copy_from_slice.ensures.after
