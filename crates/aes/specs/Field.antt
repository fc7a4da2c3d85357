-- FIPS 197 (2001), sections 4 and 5.1.1: bytes as elements of GF(2^8), and the substitution's rule. A byte is a number below 256.
-- 4.1: addition is exclusive or, `◌⊕◌`.
use Rattle.std.specs.Prelude.{ℕ, zero, suc, ◌+◌, ◌*◌, ◌/◌, ◌%◌, ◌^◌}
use Rattle.lemmas.specs.lists.Xor.{◌⊕◌}

-- 4.2.1: times x, that is {02}: a shift to the left, and {1b} added where bit 7 was set
unfoldable pub xtime : ℕ → ℕ
xtime b = b / 128 * 0x1b ⊕ b * 2 % 256

-- 4.2: the product: b times x^i for each bit i of a, added. `count` bits of a are looked at
unfoldable pub times : ℕ → ℕ → ℕ → ℕ
times zero a b = 0
times (suc count) a b = a % 2 * b ⊕ times count (a / 2) (xtime b)

infixl 70 ◌•◌
unfoldable pub ◌•◌ : ℕ → ℕ → ℕ
a • b = times 8 a b

-- acc times p, p^2, p^4, .., `count` factors in all
unfoldable pub powers : ℕ → ℕ → ℕ → ℕ
powers zero p acc = acc
powers (suc count) p acc = powers count (p • p) (acc • p)

-- 4.2: the multiplicative inverse, b^254 = b^2 b^4 .. b^128; 0 for 0, which has none. That it is one is a law (Laws: `inverse-is`)
unfoldable pub inverse : ℕ → ℕ
inverse b = powers 7 (b • b) 1

-- bit i of b, where the places are counted modulo 8
abbrev pub bit : ℕ → ℕ → ℕ
bit b i = b / 2 ^ (i % 8) % 2

-- 5.1.1, (5.1): bit i of the affine image
unfoldable pub affine_bit : ℕ → ℕ → ℕ
affine_bit b i = (bit b i + bit b (i + 4) + bit b (i + 5) + bit b (i + 6) + bit b (i + 7) + bit 0x63 i) % 2

-- the number whose bits from i on, `count` of them, are those
unfoldable pub affine_from : ℕ → ℕ → ℕ → ℕ
affine_from zero i b = 0
affine_from (suc count) i b = affine_bit b i + 2 * affine_from count (suc i) b

unfoldable pub affine : ℕ → ℕ
affine b = affine_from 8 0 b

-- 5.1.1: the substitution of a byte
unfoldable pub sub_byte : ℕ → ℕ
sub_byte b = affine (inverse b)
