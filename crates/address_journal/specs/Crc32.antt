-- CRC-32 of IEEE 802.3 (ISO 3309, and zlib's `crc32`), bit by bit: the lowest bit first, polynomial EDB88320, complemented before and
-- after.
use Rattle.std.specs.Prelude.{ℕ, ◌/◌, ◌%◌, cond, List, [], ◌∷◌, eqb}
use Rattle.std.specs.Int.Bits.{bit_xor}

unfoldable pub crc_bit : ℕ → ℕ
crc_bit x = cond (eqb (x % 2) 1) (bit_xor (x / 2) 0xedb88320) (x / 2)

unfoldable pub crc_byte : ℕ → ℕ → ℕ
crc_byte x b = crc_bit (crc_bit (crc_bit (crc_bit (crc_bit (crc_bit (crc_bit (crc_bit (bit_xor x b))))))))

unfoldable pub crc_bytes : ℕ → List ℕ → ℕ
crc_bytes x [] = x
crc_bytes x (b ∷ bs) = crc_bytes (crc_byte x b) bs

-- the CRC-32 of bytes that follow bytes with the CRC-32 `before`; 0 is that of no bytes
unfoldable pub crc32 : ℕ → List ℕ → ℕ
crc32 before bytes = bit_xor (crc_bytes (bit_xor before 0xffffffff) bytes) 0xffffffff
