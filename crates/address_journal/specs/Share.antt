-- A range that several fixtures share: equal parts one after the other, and what is left over is nobody's.
use Rattle.std.specs.Prelude.{ℕ, ◌+◌, ◌-◌, ◌*◌, ◌/◌, Bool, cond, ◌&&◌, leb}
use Rattle.address_journal.specs.declared.share.Part.{Part}

-- a range that may be one, and fixture k of n, numbered from 1 on
unfoldable pub is_share : ℕ → ℕ → ℕ → ℕ → Bool
is_share first size k n = (leb first 0x10000 && (leb size 4096 && (leb 1 k && leb k n)))

-- a range without an address, which opening refuses
abbrev pub no_part : Part
no_part = record { first = 0; size = 0 }

unfoldable pub part_of : ℕ → ℕ → ℕ → ℕ → Part
part_of first size k n = cond (is_share first size k n) (record { first = first + size / n * (k - 1); size = size / n }) no_part
