-- The last byte decides first. Then what is left to compare from byte i on decides: one byte that differs ends the walk, and after eight
-- nothing is left.
use Rattle.std.proofs.Common.{◌≡◌, ◌+◌, ◌-◌, drop}
use Rattle.address_slots.specs.Slot.{same}
use Rattle.address_slots.proofs.slot.is_board.Given as goal

abbrev pub invariant-loop-i : goal.invariant-loop-i
invariant-loop-i l = same 8 (drop l.at l.memory) l.board ≡ same (8 - l.i) (drop (l.at + l.i) l.memory) (drop l.i l.board)
