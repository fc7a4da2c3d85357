-- Who holds what, as the memory of a ledger shows it; asking changes nothing. RANGE comes first, then ROOM, as for every call of a
-- ledger.
use Rattle.std.specs.Prelude.{ℕ, ◌+◌, ◌-◌, ◌*◌, cond, ◌&&◌, List, eqb, leb, ltb, get_or, take, drop, Result, Ok, Err}
use Rattle.refusal.specs.declared.Refusal.{Refusal}
use Rattle.refusal.specs.declared.Refusal.TheVariants.{Unknown}
use Rattle.refusal.specs.Verdict.{Verdict}
use Rattle.address_slots.specs.Slot.{held_by, lowest}
use Rattle.address_ledger.specs.Ledger.{judged_of, counted_of, places_of}
use Rattle.address_ledger.specs.declared.ledger.Ledger.{Ledger}

-- ---- the address of a board: that of the lowest slot that it holds, else UNKNOWN
abbrev pub address_found : ℕ → ℕ → ℕ → Result ℕ Refusal
address_found first n k = cond (ltb k n) (Ok (first + k)) (Err Unknown)

unfoldable pub held_address_by : Verdict → Ledger → List ℕ → List ℕ → Result ℕ Refusal
held_address_by (Ok tt) l m b = address_found l.first (counted_of l) (lowest (held_by b) (places_of l m))
held_address_by (Err r) l m b = Err r

unfoldable pub held_address : Ledger → List ℕ → List ℕ → Result ℕ Refusal
held_address l m b = held_address_by (judged_of l m) l m b

-- ---- the board of an address: the eight bytes after mark 1 in its slot, else UNKNOWN
abbrev pub holds : List ℕ → Result (List ℕ) Refusal
holds board = Ok board

abbrev pub no_holder : Refusal → Result (List ℕ) Refusal
no_holder r = Err r

-- the board in slot k
unfoldable pub holder_in : List ℕ → ℕ → Result (List ℕ) Refusal
holder_in m k = cond (eqb (get_or m (9 * k) 0) 1) (holds (take 8 (drop (9 * k + 1) m))) (no_holder Unknown)

unfoldable pub holder_by : Verdict → Ledger → List ℕ → ℕ → Result (List ℕ) Refusal
holder_by (Ok tt) l m a =
    cond (leb l.first a && ltb a (l.first + counted_of l)) (holder_in m (a - l.first)) (no_holder Unknown)
holder_by (Err r) l m a = no_holder r

unfoldable pub holder_of : Ledger → List ℕ → ℕ → Result (List ℕ) Refusal
holder_of l m a = holder_by (judged_of l m) l m a
