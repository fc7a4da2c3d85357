-- A published example, computed from the definitions alone.
-- Assumes nothing.
use mathlib.Core.Path.{◌≡◌, refl}
use mathlib.Core.List.{[], ◌∷◌}
use Rattle.lemmas.specs.lists.Xor.{◌⊕◌}
use Rattle.lemmas.specs.lists.Table.{table}
use Rattle.aes.specs.Field.{◌•◌, xtime, times, powers, inverse, affine_bit, affine_from, affine, sub_byte}
use Rattle.aes.specs.Cipher.{sub_bytes, shift_rows, mix_columns, add_round_key, rcon, next_key, round_keys, rounds, cipher, encrypted}

-- FIPS 197, C.1
example-c-1 :
    encrypted
    (0 ∷ 1 ∷ 2 ∷ 3 ∷ 4 ∷ 5 ∷ 6 ∷ 7 ∷ 8 ∷ 9 ∷ 10 ∷ 11 ∷ 12 ∷ 13 ∷ 14 ∷ 15 ∷ [])
    (0 ∷ 17 ∷ 34 ∷ 51 ∷ 68 ∷ 85 ∷ 102 ∷ 119 ∷ 136 ∷ 153 ∷ 170 ∷ 187 ∷ 204 ∷ 221 ∷ 238 ∷ 255 ∷ [])
    ≡ 105 ∷ 196 ∷ 224 ∷ 216 ∷ 106 ∷ 123 ∷ 4 ∷ 48 ∷ 216 ∷ 205 ∷ 183 ∷ 128 ∷ 112 ∷ 180 ∷ 197 ∷ 90 ∷ []
unfolding ◌⊕◌ ◌•◌ xtime times powers inverse affine_bit affine_from affine sub_byte table sub_bytes shift_rows mix_columns add_round_key
    rcon next_key round_keys rounds cipher encrypted
example-c-1 = refl
