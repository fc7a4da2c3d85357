-- What is promised of the shortest head to those who write: how many bytes it takes.
use Rattle.std.specs.Prelude.{ℕ, ◌+◌, ◌≤◌, ◌≡◌, length}
use Rattle.cbor.specs.Encode.{extra_of, shortest}

pub record HeadLaws : Type 0 where
  -- its first byte, and those of its argument
  pub length-head : (m n : ℕ) → length (shortest m n) ≡ extra_of n + 1
  -- one byte up to 23, at most two up to 255, at most nine
  pub short-head : (m n : ℕ) → n ≤ 23 → length (shortest m n) ≡ 1
  pub byte-head : (n : ℕ) → n ≤ 255 → extra_of n ≤ 1
  pub extra-most : (n : ℕ) → extra_of n ≤ 8
