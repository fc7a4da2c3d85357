-- The ledger and what is no address: FFFE and FFFF are neither granted nor given back, whoever wrote the memory; and a range of nothing
-- else has nothing free, and answers FULL and UNKNOWN.
use Rattle.std.specs.Prelude.{ℕ, ◌≤◌, ◌+◌, ◌<◌, ◌≡◌, true, List, ltb, length, Ok, Err}
use Rattle.refusal.specs.declared.Refusal.TheVariants.{Full, Unknown}
use Rattle.short_address.specs.Address.{is_address, bytes_of}
use Rattle.address_ledger.specs.range.Range.{judged, counted}
use Rattle.address_ledger.specs.Ledger.{outcome, opened, granted, given_back, free_count}
use Rattle.address_ledger.specs.declared.ledger.Ledger.{Ledger}

pub record AddressesAlone : Type 0 where
  -- the places that count are those whose number is an address
  pub counts : (first size k : ℕ) → first + size ≤ 0x10000 → k < size → is_address (bytes_of (first + k)) ≡ ltb k (counted first size)
  pub granted-one : (l : Ledger) (m b : List ℕ) (a : ℕ) → (granted l m b).answer ≡ Ok a → is_address (bytes_of a) ≡ true
  pub given-one : (l : Ledger) (m b : List ℕ) (a : ℕ) → (given_back l m b).answer ≡ Ok a → is_address (bytes_of a) ≡ true

-- a range from FFFE on, over any memory that has room for it
pub record TwoAlone : Type 0 where
  pub none-counts : (first size : ℕ) → 0xfffe ≤ first → first + size ≤ 0x10000 → counted first size ≡ 0
  pub none_free : (first size : ℕ) (m : List ℕ) → 0xfffe ≤ first → Ok tt ≡ judged first size (length m)
      → free_count (opened first size m).ledger ≡ Ok 0
  pub full : (first size : ℕ) (m b : List ℕ) → 0xfffe ≤ first → Ok tt ≡ judged first size (length m)
      → granted (opened first size m).ledger m b ≡ outcome (Err Full) (opened first size m).ledger m
  pub unknown : (first size : ℕ) (m b : List ℕ) → 0xfffe ≤ first → Ok tt ≡ judged first size (length m)
      → given_back (opened first size m).ledger m b ≡ outcome (Err Unknown) (opened first size m).ledger m
