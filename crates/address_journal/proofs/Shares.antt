-- The ways out of the share, one law each.
use Prim.Native.Nat.{ℕ, ◌+◌, ◌-◌, ◌*◌, ◌/◌, ◌≤◌, ◌<◌}
use mathlib.Core.Path.{◌≡◌}
use native.Mathlib.Omega.{arith}
use borrow.Author.Tests.{le-leb, lt-leb}
use Rattle.address_journal.specs.declared.share.Part.{Part}
use Rattle.address_journal.specs.Share.{is_share, no_part, part_of}

module _ (first size k n : ℕ) where
  pub first-over : 0x10000 < first → (r : Part) → r ≡ no_part → r ≡ part_of first size k n
  unfolding part_of is_share
  first-over h r e = rw (lt-leb first 0x10000 h) e

  pub size-over : first ≤ 0x10000 → 4096 < size → (r : Part) → r ≡ no_part → r ≡ part_of first size k n
  unfolding part_of is_share
  size-over f h r e = rw (le-leb first 0x10000 f, lt-leb size 4096 h) e

  module _ (f : first ≤ 0x10000) (s : size ≤ 4096) where
    pub fixture-none : k ≡ 0 → (r : Part) → r ≡ no_part → r ≡ part_of first size k n
    unfolding part_of is_share
    fixture-none h r e = rw (le-leb first 0x10000 f, le-leb size 4096 s, lt-leb 1 k (omega arith)) e

    pub fixture-over : (k ≡ 0 → ⊥) → n < k → (r : Part) → r ≡ no_part → r ≡ part_of first size k n
    unfolding part_of is_share
    fixture-over z h r e = rw (le-leb first 0x10000 f, le-leb size 4096 s, le-leb 1 k (omega arith), lt-leb k n h) e

    pub part-is : (k ≡ 0 → ⊥) → k ≤ n → record { first = first + size / n * (k - 1); size = size / n } ≡ part_of first size k n
    unfolding part_of is_share
    part-is z h = rw (le-leb first 0x10000 f, le-leb size 4096 s, le-leb 1 k (omega arith), le-leb k n h)
