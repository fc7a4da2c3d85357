-- The lent memory read as places, nine bytes an address and the lowest address first:
-- a mark (1 held, else free) and the board's 8-byte identifier.
use Rattle.std.specs.Prelude.{ℕ, zero, suc, ◌+◌, ◌*◌, Bool, true, cond, not, ◌&&◌, eqb, leb, ltb, Option, Some, None}
use Rattle.std.specs.Prelude.{List, [], ◌∷◌, length, get_or, take, drop, set}
use Rattle.std.proofs.Math.Seq.{paste}
use Rattle.address_slots.specs.declared.slot.SlotFound.{SlotFound}
use Rattle.address_slots.specs.declared.slot.SlotFound.TheVariants.{Held, Free, Nothing}

pub record Slot : Type 0 where
  pub mark : ℕ
  pub board : List ℕ

-- ---- the layout of a place in bytes: how it is read, and how it is written

-- the place that begins where the bytes begin
unfoldable pub slot_at : List ℕ → Slot
slot_at m = record { mark = get_or m 0 0; board = take 8 (drop 1 m) }

-- so many places, the lowest first
unfoldable pub slots : ℕ → List ℕ → List Slot
slots zero m = []
slots (suc n) m = slot_at m ∷ slots n (drop 9 m)

-- place k held by the board: mark 1 and the board in its nine bytes, all other bytes as they were
unfoldable pub hold : List ℕ → ℕ → List ℕ → List ℕ
hold m k b = paste m (9 * k) (1 ∷ b) 9

-- where there is room for it, and place k is one that a ledger may have; else nothing is written
abbrev pub hold_within : List ℕ → ℕ → List ℕ → List ℕ
hold_within m k b = cond (ltb k 4096 && leb (9 * k + 9) (length m)) (hold m k b) m

-- place k given back: only the mark is written
unfoldable pub freed : List ℕ → ℕ → List ℕ
freed m k = set m (9 * k) 0

-- so many places of memory of this length, where there is room for them and they are no more than a ledger has; else none
abbrev pub fit : ℕ → ℕ → ℕ
fit n len = cond (leb n 4096 && leb (9 * n) len) n 0

-- ---- what a place says

-- whether the first n bytes agree
unfoldable pub same : ℕ → List ℕ → List ℕ → Bool
same zero s t = true
same (suc n) s t = (eqb (get_or s 0 0) (get_or t 0 0) && same n (drop 1 s) (drop 1 t))

unfoldable pub is_free : Slot → Bool
is_free p = not (eqb p.mark 1)

-- the bytes beside another mark say nothing
unfoldable pub held_by : List ℕ → Slot → Bool
held_by b p = (eqb p.mark 1 && same 8 p.board b)

-- ---- what a list of places says

-- how many places come before the lowest one with the property: all of them where none has it
unfoldable pub lowest : (Slot → Bool) → List Slot → ℕ
lowest q [] = 0
lowest q (p ∷ ps) = cond (q p) 0 (suc (lowest q ps))

unfoldable pub has : (Slot → Bool) → List Slot → Bool
has q ps = ltb (lowest q ps) (length ps)

-- the number of the lowest place with the property, where j places come before the list; none where no place has it
abbrev pub lowest_from : (Slot → Bool) → ℕ → List Slot → Option ℕ
lowest_from q j ps = cond (has q ps) (Some (j + lowest q ps)) None

unfoldable pub count_free : List Slot → ℕ
count_free [] = 0
count_free (p ∷ ps) = cond (is_free p) (suc (count_free ps)) (count_free ps)

-- what there is for a board: the lowest place that it holds, else the lowest free one
unfoldable pub slot_found : List ℕ → List Slot → SlotFound
slot_found b ps = cond (has (held_by b) ps) (Held (lowest (held_by b) ps)) (cond (has is_free ps) (Free (lowest is_free ps)) Nothing)
