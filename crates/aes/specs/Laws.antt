-- What the layers above may use of the definitions.
use Rattle.std.specs.Prelude.{◌≡◌, List, [], ℕ, ◌<◌, length, get_or}
use Rattle.aes.specs.Field.{◌•◌, inverse}
use Rattle.aes.specs.Bounds.{Bytes}
use Rattle.aes.specs.Cipher.{round_keys, cipher}
use Rattle.aes.specs.Words.{RoundTable, round_table, cipher_by}

pub record AesLaws : Type 0 where
  -- FIPS 197 (2001), 4.2: the inverse of a byte that is not 0 is one
  pub inverse-is : (b : ℕ) → b < 256 → 0 < b → b • inverse b ≡ 1
  -- the table of the rounds is right, and over a right table and bytes the rounds are FIPS 197's
  pub table-right : RoundTable round_table
  pub by-table : (t : List ℕ) (keys : List (List ℕ)) (block : List ℕ) → RoundTable t → ((n : ℕ) → Bytes (get_or keys n [])) → Bytes block
      → cipher_by t keys block ≡ cipher keys block
  pub block-long : (keys : List (List ℕ)) (block : List ℕ) → length (cipher keys block) ≡ 16
  -- under a key of bytes the block is of bytes, whatever it was made of
  pub block-bytes : (key block : List ℕ) → Bytes key → Bytes (cipher (round_keys 10 key) block)
