-- What the calls write, said of the bytes of the memory that they leave:
-- a new grant the nine bytes of its place, a give back one byte, a repeated grant none.
use Rattle.std.specs.Prelude.{ℕ, ◌+◌, ◌*◌, ◌≡◌, true, false, List, ◌∷◌, length, get_or, take, drop, Ok}
use Rattle.address_slots.specs.Slot.{held_by, has}
use Rattle.address_ledger.specs.Ledger.{places_of, granted, given_back}
use Rattle.address_ledger.specs.declared.ledger.Ledger.{Ledger}

-- mark 1 and the board from byte 9k on; all before and all after as it was
pub record HoldsNow (m : List ℕ) (k : ℕ) (b : List ℕ) (after : List ℕ) : Type 0 where
  pub place : take 9 (drop (9 * k) after) ≡ 1 ∷ b
  pub before : take (9 * k) after ≡ take (9 * k) m
  pub behind : drop (9 * k + 9) after ≡ drop (9 * k + 9) m

-- mark 0, and every other byte as it was
pub record FreeNow (m : List ℕ) (k : ℕ) (after : List ℕ) : Type 0 where
  pub mark : get_or after (9 * k) 0 ≡ 0
  pub others : (i : ℕ) → (i ≡ 9 * k → ⊥) → get_or after i 0 ≡ get_or m i 0

pub record Written : Type 0 where
  pub granted-new : (l : Ledger) (m b : List ℕ) (k : ℕ) → length b ≡ 8 → has (held_by b) (places_of l m) ≡ false
      → (granted l m b).answer ≡ Ok (l.first + k) → HoldsNow m k b (granted l m b).memory
  pub granted-again : (l : Ledger) (m b : List ℕ) → has (held_by b) (places_of l m) ≡ true → (granted l m b).memory ≡ m
  pub given_back_lem : (l : Ledger) (m b : List ℕ) (k : ℕ) → (given_back l m b).answer ≡ Ok (l.first + k)
      → FreeNow m k (given_back l m b).memory
