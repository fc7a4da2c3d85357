-- No place that was passed is the board's, so the lowest one is still to come.
use Rattle.std.proofs.Common.{◌≡◌, ◌-◌, ◌*◌, drop}
use Rattle.address_slots.specs.Slot.{slots, held_by, lowest_from}
use Rattle.address_slots.proofs.slot.find_holder.Given as goal

abbrev pub invariant-loop-i : goal.invariant-loop-i
invariant-loop-i l =
    lowest_from (held_by l.board) 0 (slots l.count l.memory)
    ≡ lowest_from (held_by l.board) l.i (slots (l.count - l.i) (drop (9 * l.i) l.memory))
