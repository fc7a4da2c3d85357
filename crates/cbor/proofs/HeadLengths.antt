-- How many bytes the shortest head takes: its first, and those of its argument.
use Prim.Native.Nat.{ℕ, ◌+◌, ◌≤◌, ◌<◌}
use mathlib.Core.Path.{◌≡◌, ◌∙◌}
use mathlib.Core.Bool.{Bool, true, false, cond}
use mathlib.Core.List.{List, ◌++◌}
use native.Mathlib.Omega.{arith}
use native.Mathlib.Decide.{dec_lt}
use borrow.Author.Tests.{le-ltb, lt-ltb}
use lib.Dec.{ltb}
use lib.ListN.{length, length-append}
use Rattle.cbor.specs.Encode.{extra_of, shortest}
use Rattle.cbor.specs.HeadLaws.{HeadLaws}
use Rattle.byte_io.specs.BigEndianLemmas.{length-bytes_of}

pub length-head : (m n : ℕ) → length (shortest m n) ≡ extra_of n + 1
unfolding shortest
length-head m n = omega (arith, length-bytes_of (extra_of n) n)

pub length-string : (m : ℕ) (s : List ℕ) → length (shortest m (length s) ++ s) ≡ extra_of (length s) + 1 + length s
length-string m s = length-append (shortest m (length s)) s ∙ rw (length-head m (length s))

-- a head of one byte
short-head : (m n : ℕ) → n ≤ 23 → length (shortest m n) ≡ 1
unfolding extra_of
short-head m n h = let l : n < 24 = omega arith in length-head m n ∙ simp (lt-ltb n 24 l)

-- a head of at most two bytes
byte-head : (n : ℕ) → n ≤ 255 → extra_of n ≤ 1
unfolding extra_of
byte-head n h = go (dec_lt n 24)
  where
    go : Dec (n < 24) → extra_of n ≤ 1
    go (yes a) = simp (lt-ltb n 24 a) (omega arith)
    go (no a) =
        let a' : 24 ≤ n = omega arith in
        let b : n < 256 = omega arith in
        simp (le-ltb n 24 a', lt-ltb n 256 b) (omega arith)

-- a head takes at most nine bytes
pub extra-most : (n : ℕ) → extra_of n ≤ 8
unfolding extra_of
extra-most n = go (ltb n 24) (ltb n 256) (ltb n 65536) (ltb n 4294967296)
  where
    go : (a b c d : Bool) → cond a 0 (cond b 1 (cond c 2 (cond d 4 8))) ≤ 8
    go true b c d = omega arith
    go false true c d = omega arith
    go false false true d = omega arith
    go false false false true = omega arith
    go false false false false = omega arith

pub head-laws : HeadLaws
head-laws = record { length-head = length-head; short-head = short-head; byte-head = byte-head; extra-most = extra-most }
