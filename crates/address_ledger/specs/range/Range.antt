-- The range of a ledger, given by its first address and its size: the limits, and the memory that it needs.
use Rattle.std.specs.Prelude.{ℕ, zero, suc, ◌+◌, ◌*◌, ◌≤◌, Bool, cond, ◌&&◌, leb, Ok, Err}
use Rattle.short_address.specs.Address.{is_address, bytes_of}
use Rattle.refusal.specs.declared.Refusal.TheVariants.{Room, Range}
use Rattle.refusal.specs.Verdict.{Verdict}

-- 1 to 4,096 consecutive addresses that end at FFFF at most
unfoldable pub in_limits : ℕ → ℕ → Bool
in_limits first size = (leb 1 size && (leb size 4096 && leb (first + size) 0x10000))

-- RANGE, then ROOM: nine bytes an address
unfoldable pub judged : ℕ → ℕ → ℕ → Verdict
judged first size len = cond (in_limits first size) (cond (leb (9 * size) len) (Ok tt) (Err Room)) (Err Range)

-- how many of so many numbers from `first` on are addresses: FFFE and FFFF, which are none, are in the limits and the memory alone. They
-- are the highest numbers, so the places that count are the lowest ones
unfoldable pub counted : ℕ → ℕ → ℕ
counted first zero = 0
counted first (suc n) = cond (is_address (bytes_of first)) (suc (counted (suc first) n)) (counted (suc first) n)

-- and none of a range outside its limits
abbrev pub counted_in : ℕ → ℕ → ℕ
counted_in first size = cond (in_limits first size) (counted first size) 0

-- so many places, the first of them that of the address `first`, have room in memory of this length and end at FFFF at most
pub record Usable (first len n : ℕ) : Type 0 where
  pub room : 9 * n ≤ len
  pub size : n ≤ 4096
  pub end : first + n ≤ 0x10000
