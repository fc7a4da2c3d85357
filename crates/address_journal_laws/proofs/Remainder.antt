-- The check of a list of bytes changes with any one byte: each step of it can be undone.
use Prim.Native.Nat.{ℕ, zero, suc, ◌/◌, ◌%◌, ◌^◌, ◌<◌, ◌≤◌}
use mathlib.Core.Path.{◌≡◌, refl, sym, ap, ◌∙◌}
use mathlib.Core.Bool.{Bool, true, false}
use mathlib.Core.List.{List, [], ◌∷◌}
use native.Mathlib.Omega.{arith}
use borrow.Author.Tests.{eqb-true, eqb-false}
use lib.Dec.{eqb}
use lib.Bits.{bit_xor, xor_lt, xor_shr, xor_zero_l, xor_comm}
use lib.ListN.{length, get_or, set}
use Rattle.lemmas.specs.lists.Xor.{◌⊕◌}
use Rattle.lemmas.specs.lists.XorLemmas.{cancel}
use Rattle.address_journal.specs.Crc32.{crc_bit, crc_byte, crc_bytes, crc32}
use Rattle.address_journal_laws.specs.Damage.{Octets}

-- ---- exclusive or can be undone
pub undo : (x y p : ℕ) → bit_xor x p ≡ bit_xor y p → x ≡ y
unfolding ◌⊕◌
undo x y p e = sym (cancel x p) ∙ ap (λ (z : ℕ). bit_xor z p) e ∙ cancel y p

undo-left : (x p q : ℕ) → bit_xor x p ≡ bit_xor x q → p ≡ q
undo-left x p q e = undo p q x (xor_comm p x ∙ e ∙ xor_comm x q)

-- ---- a bit
half-small : (x : ℕ) → x < 0x100000000 → x / 2 < 0x80000000
half-small x h = omega arith

top : (x : ℕ) → x < 0x80000000 → bit_xor x 0xedb88320 / 2 ^ 31 ≡ 1
top x h =
    let z : x / 2 ^ 31 ≡ 0 = omega arith in
    xor_shr x 0xedb88320 31 ∙ ap (λ (y : ℕ). bit_xor y (0xedb88320 / 2 ^ 31)) z ∙ xor_zero_l 1

high : (x : ℕ) → x < 0x80000000 → 0x80000000 ≤ bit_xor x 0xedb88320
high x h = let t : bit_xor x 0xedb88320 / 0x80000000 ≡ 1 = top x h in omega arith

bit-lt : (x : ℕ) → x < 0x100000000 → crc_bit x < 0x100000000
unfolding crc_bit
bit-lt x h = by-odd (eqb (x % 2) 1) refl
  where
    by-odd : (v : Bool) → eqb (x % 2) 1 ≡ v → crc_bit x < 0x100000000
    by-odd true e = rw e (xor_lt 32 (x / 2) 0xedb88320 (omega arith) (omega arith))
    by-odd false e = rw e (omega arith)

bit-by : (x y : ℕ) → x < 0x100000000 → y < 0x100000000 → crc_bit x ≡ crc_bit y → (v w : Bool) → eqb (x % 2) 1 ≡ v → eqb (y % 2) 1 ≡ w → x
    ≡ y
unfolding crc_bit
bit-by x y h k e true true p q =
    let z : x / 2 ≡ y / 2 = undo (x / 2) (y / 2) 0xedb88320 (rw (p, q) at e) in
    omega (arith, eqb-true (x % 2) 1 p, eqb-true (y % 2) 1 q)
bit-by x y h k e true false p q =
    let z : bit_xor (x / 2) 0xedb88320 ≡ y / 2 = rw (p, q) at e in
    let g : 0x80000000 ≤ bit_xor (x / 2) 0xedb88320 = high (x / 2) (half-small x h) in
    let s : y / 2 < 0x80000000 = half-small y k in
    absurd (omega arith)
bit-by x y h k e false true p q =
    let z : x / 2 ≡ bit_xor (y / 2) 0xedb88320 = rw (p, q) at e in
    let g : 0x80000000 ≤ bit_xor (y / 2) 0xedb88320 = high (y / 2) (half-small y k) in
    let s : x / 2 < 0x80000000 = half-small x h in
    absurd (omega arith)
bit-by x y h k e false false p q =
    let z : x / 2 ≡ y / 2 = rw (p, q) at e in
    let a : x % 2 ≡ 1 → ⊥ = eqb-false (x % 2) 1 p in
    let b : y % 2 ≡ 1 → ⊥ = eqb-false (y % 2) 1 q in
    omega arith

bit : (x y : ℕ) → x < 0x100000000 → y < 0x100000000 → crc_bit x ≡ crc_bit y → x ≡ y
bit x y h k e = bit-by x y h k e _ _ refl refl

two-bits : (x y : ℕ) → x < 0x100000000 → y < 0x100000000 → crc_bit (crc_bit x) ≡ crc_bit (crc_bit y) → x ≡ y
two-bits x y h k e = bit x y h k (bit (crc_bit x) (crc_bit y) (bit-lt x h) (bit-lt y k) e)

four_bytes-bits : (x y : ℕ) → x < 0x100000000 → y < 0x100000000 → crc_bit (crc_bit (crc_bit (crc_bit x)))
    ≡ crc_bit (crc_bit (crc_bit (crc_bit y))) → x ≡ y
four_bytes-bits x y h k e =
    two-bits x y h k
    (two-bits (crc_bit (crc_bit x)) (crc_bit (crc_bit y)) (bit-lt (crc_bit x) (bit-lt x h)) (bit-lt (crc_bit y) (bit-lt y k)) e)

four_bytes-lt : (x : ℕ) → x < 0x100000000 → crc_bit (crc_bit (crc_bit (crc_bit x))) < 0x100000000
four_bytes-lt x h = bit-lt _ (bit-lt _ (bit-lt _ (bit-lt x h)))

-- ---- a byte
mixed : (x b : ℕ) → x < 0x100000000 → b < 256 → bit_xor x b < 0x100000000
mixed x b h k = xor_lt 32 x b h (omega arith)

byte-lt : (x b : ℕ) → x < 0x100000000 → b < 256 → crc_byte x b < 0x100000000
unfolding crc_byte
byte-lt x b h k = four_bytes-lt _ (four_bytes-lt (bit_xor x b) (mixed x b h k))

byte : (x y b d : ℕ) → x < 0x100000000 → y < 0x100000000 → b < 256 → d < 256 → crc_byte x b ≡ crc_byte y d → bit_xor x b ≡ bit_xor y d
unfolding crc_byte
byte x y b d h k p q e =
    four_bytes-bits (bit_xor x b) (bit_xor y d) (mixed x b h p) (mixed y d k q)
    (four_bytes-bits _ _ (four_bytes-lt (bit_xor x b) (mixed x b h p)) (four_bytes-lt (bit_xor y d) (mixed y d k q)) e)

-- ---- a list
later : (s : List ℕ) (x y : ℕ) → x < 0x100000000 → y < 0x100000000 → Octets s → crc_bytes x s ≡ crc_bytes y s → x ≡ y
unfolding crc_bytes
later [] x y h k o e = e
later (b ∷ s) x y h k o e =
    undo x y b
    (byte x y b b h k (o 0) (o 0)
    (later s (crc_byte x b) (crc_byte y b) (byte-lt x b h (o 0)) (byte-lt y b k (o 0)) (λ i. o (suc i)) e))

changed : (s : List ℕ) (x i v : ℕ) → x < 0x100000000 → v < 256 → Octets s → i < length s → crc_bytes x s ≡ crc_bytes x (set s i v)
    → get_or s i 0 ≡ v
unfolding crc_bytes
changed [] x i v h k o l e = absurd (omega arith)
changed (b ∷ s) x zero v h k o l e =
    undo-left x b v
    (byte x x b v h h (o 0) k (later s (crc_byte x b) (crc_byte x v) (byte-lt x b h (o 0)) (byte-lt x v h k) (λ i. o (suc i)) e))
changed (b ∷ s) x (suc i) v h k o l e = changed s (crc_byte x b) i v (byte-lt x b h (o 0)) k (λ j. o (suc j)) (omega arith) e

pub one-changed : (s : List ℕ) (c i v : ℕ) → c < 0x100000000 → v < 256 → Octets s → i < length s → crc32 c s ≡ crc32 c (set s i v)
    → get_or s i 0 ≡ v
unfolding crc32
one-changed s c i v h k o l e =
    changed s (bit_xor c 0xffffffff) i v (xor_lt 32 c 0xffffffff h (omega arith)) k o l
    (undo (crc_bytes (bit_xor c 0xffffffff) s) (crc_bytes (bit_xor c 0xffffffff) (set s i v)) 0xffffffff e)
