-- The check bit by bit and byte by byte: one law to a way out.
use Prim.Native.Nat.{ℕ, ◌+◌, ◌/◌, ◌%◌, ◌≤◌, ◌<◌}
use mathlib.Core.Path.{◌≡◌, ◌∙◌}
use mathlib.Core.List.{List}
use native.Mathlib.Numerals.{add-one}
use borrow.Author.Tests.{eq-eqb, ne_eqb}
use lib.Bits.{bit_xor}
use lib.ListN.{length, get_or, drop, drop_of_length-le}
use lib.Seq.{drop-cons}
use Rattle.address_journal.specs.Crc32.{crc_bit, crc_byte, crc_bytes, crc32}

pub odd : (x : ℕ) → x % 2 ≡ 1 → bit_xor (x / 2) 0xedb88320 ≡ crc_bit x
unfolding crc_bit
odd x h = rw (eq-eqb (x % 2) 1 h)

pub even : (x : ℕ) → (x % 2 ≡ 1 → ⊥) → x / 2 ≡ crc_bit x
unfolding crc_bit
even x h = rw (ne_eqb (x % 2) 1 h)

pub eight-bits : (x b p q r s t u v w : ℕ) → p ≡ crc_bit (bit_xor x b) → q ≡ crc_bit p → r ≡ crc_bit q → s ≡ crc_bit r → t ≡ crc_bit s → u
    ≡ crc_bit t
    → v ≡ crc_bit u → w ≡ crc_bit v → w ≡ crc_byte x b
unfolding crc_byte
eight-bits x b p q r s t u v w ep eq er es et eu ev ew = rw (ew, ev, eu, et, es, er, eq, ep)

-- the bytes passed went into x
pub record Checking (before : ℕ) (s : List ℕ) (x i : ℕ) : Type 0 where
  pub low : i ≤ length s
  pub so_far : crc_bytes (bit_xor before 0xffffffff) s ≡ crc_bytes x (drop i s)

pub turn : (before : ℕ) (s : List ℕ) (x y i : ℕ) → Checking before s x i → i < length s → y ≡ crc_byte x (get_or s i 0)
    → Checking before s y (i + 1)
unfolding crc_bytes
turn before s x y i k h q = record { low = rw (add-one i) h; so_far = k.so_far ∙ rw (drop-cons s i 0 h, add-one i, q) }

pub stop : (before : ℕ) (s : List ℕ) (x i : ℕ) → Checking before s x i → length s ≤ i → bit_xor x 0xffffffff ≡ crc32 before s
unfolding crc32 crc_bytes
stop before s x i k h = rw (k.so_far, drop_of_length-le s h)
