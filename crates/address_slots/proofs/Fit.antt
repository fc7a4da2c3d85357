-- Where there is room for as many places as are asked for, it is those that are looked at and written.
use Prim.Native.Nat.{ℕ, ◌+◌, ◌*◌, ◌≤◌, ◌<◌}
use mathlib.Core.Path.{◌≡◌, ◌∙◌}
use mathlib.Core.List.{List}
use native.Mathlib.Omega.{arith}
use borrow.Author.Tests.{le-leb, lt-ltb}
use lib.ListN.{length}
use Rattle.address_slots.specs.Slot.{fit, hold, hold_within}

module _ (n len : ℕ) where
  pub fit_all : n ≤ 4096 → 9 * n ≤ len → n ≡ fit n len
  fit_all h l = rw (le-leb n 4096 h, le-leb (9 * n) len l)

module _ (m b : List ℕ) (k : ℕ) where
  -- place k of n that have room is written
  pub hold-all : (n : ℕ) → k < n → n ≤ 4096 → 9 * n ≤ length m → (m' : List ℕ) → m' ≡ hold_within m k b → m' ≡ hold m k b
  hold-all n h l r m' e = e ∙ rw (lt-ltb k 4096 (omega arith), le-leb (9 * k + 9) (length m) (omega arith))
