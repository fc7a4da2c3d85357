-- The summary of the places: a mark for each group of 64 places from the lowest, saying whether any is free. The marks are the bits of one
-- number, that of the lowest group first; 64 groups are the 4,096 places that a ledger may have.
use Rattle.std.specs.Prelude.{ℕ, zero, suc, ◌+◌, ◌*◌, ◌/◌, ◌%◌, Bool, cond, ◌&&◌, List, eqb, ltb, take, drop}
use Rattle.address_slots.specs.Slot.{Slot, is_free, held_by, lowest, has, count_free}
use Rattle.address_slots.specs.declared.groups.Summary.{Summary}
use Rattle.address_slots.specs.declared.slot.SlotFound.{SlotFound}
use Rattle.address_slots.specs.declared.slot.SlotFound.TheVariants.{Held, Free, Nothing}

-- ---- the marks of a number

-- whether group g is marked
unfoldable pub marked : ℕ → ℕ → Bool
marked zero x = eqb (x % 2) 1
marked (suc g) x = marked g (x / 2)

abbrev pub bit : Bool → ℕ
bit b = cond b 1 0

-- group g marked as told, every other mark as it was
unfoldable pub with_mark : ℕ → Bool → ℕ → ℕ
with_mark zero b x = bit b + 2 * (x / 2)
with_mark (suc g) b x = x % 2 + 2 * with_mark g b (x / 2)

-- ---- the groups of a list of places
abbrev pub group_at : ℕ → List Slot → List Slot
group_at g ps = take 64 (drop (64 * g) ps)

abbrev pub group_of : ℕ → ℕ
group_of k = k / 64

-- the marks of so many groups as they should be
unfoldable pub marks_of : ℕ → List Slot → ℕ
marks_of zero ps = 0
marks_of (suc n) ps = bit (has is_free (take 64 ps)) + 2 * marks_of n (drop 64 ps)

-- what opening finds
abbrev pub summary_of : List Slot → Summary
summary_of ps = record { free = count_free ps; bitmap = marks_of 64 ps }

-- the group of place k marked anew, by its places as they are now; there are 64 groups
unfoldable pub refreshed : ℕ → ℕ → List Slot → ℕ
refreshed x k ps = cond (ltb k 4096) (with_mark (group_of k) (has is_free (group_at (group_of k) ps)) x) x

-- ---- what there is for a board by the marks

-- the lowest free place of the first marked group that has one, of so many groups; j places come before them
unfoldable pub free_by : ℕ → ℕ → ℕ → List Slot → SlotFound
free_by zero x j ps = Nothing
free_by (suc n) x j ps =
    cond (marked zero x && has is_free (take 64 ps)) (Free (j + lowest is_free (take 64 ps))) (free_by n (x / 2) (j + 64) (drop 64 ps))

-- the lowest place that it holds, whatever the marks; else the free one that they lead to
unfoldable pub slot_found_by : ℕ → List ℕ → List Slot → SlotFound
slot_found_by x b ps = cond (has (held_by b) ps) (Held (lowest (held_by b) ps)) (free_by 64 x 0 ps)
