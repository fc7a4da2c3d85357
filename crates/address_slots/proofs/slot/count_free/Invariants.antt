-- What was counted and what is left to count are the whole.
use Prim.Native.Nat.{◌+◌, ◌-◌, ◌*◌, ◌≤◌}
use mathlib.Core.Path.{◌≡◌}
use lib.ListN.{drop}
use Rattle.address_slots.specs.Slot.{slots, count_free}
use Rattle.address_slots.proofs.slot.count_free.Given as goal

abbrev pub invariant-loop-i : goal.invariant-loop-i
invariant-loop-i l =
    (l.n ≤ l.i)
    × (count_free (slots (l.end - l.from) (drop (9 * l.from) l.memory))
    ≡ l.n + count_free (slots (l.end - l.i) (drop (9 * l.i) l.memory)))
