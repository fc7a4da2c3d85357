-- Lemmas: nothing here has to be believed.
-- The record that is due, by the slot that was found for the board.
use Rattle.std.specs.Prelude.{ℕ, ◌+◌}
use Rattle.address_slots.specs.declared.slot.SlotFound.{SlotFound}
use Rattle.address_slots.specs.declared.slot.SlotFound.TheVariants as found
use Rattle.std.specs.Prelude.{Option}
use Rattle.std.specs.Prelude.{Some, None}

abbrev pub new_in : ℕ → SlotFound → Option ℕ
new_in first (found.Held k) = None
new_in first (found.Free k) = Some (first + k)
new_in first found.Nothing = None
