-- No place that was passed is free, so the lowest free one is still to come.
use Rattle.std.proofs.Common.{◌≡◌, ◌-◌, ◌*◌, drop}
use Rattle.address_slots.specs.Slot.{slots, is_free, lowest_from}
use Rattle.address_slots.proofs.slot.find_free.Given as goal

abbrev pub invariant-loop-i : goal.invariant-loop-i
invariant-loop-i l =
    lowest_from is_free l.from (slots (l.end - l.from) (drop (9 * l.from) l.memory))
    ≡ lowest_from is_free l.i (slots (l.end - l.i) (drop (9 * l.i) l.memory))
