-- What is for speed: the state as four words, one for each column, row 0 lowest, and the table that the rounds read.
-- Over FIPS 197's definitions in Field and Cipher. The last part says what the rounds make of any table.
use Rattle.std.specs.Prelude.{◌≡◌, List, [], ◌∷◌, ◌++◌, ℕ, zero, suc, ◌+◌, ◌*◌, ◌/◌, ◌%◌, ◌<◌, get_or}
use Rattle.lemmas.specs.lists.Table.{table}
use Rattle.lemmas.specs.lists.Xor.{◌⊕◌}
use Rattle.aes.specs.Cipher.{cell, add_round_key}
use Rattle.aes.specs.Field.{◌•◌, sub_byte}
use Rattle.aes.specs.declared.cipher.State.{State}

-- the four bytes of a word, the lowest first
abbrev pub bytes_of : ℕ → List ℕ
bytes_of w = w % 256 ∷ w / 256 % 256 ∷ w / 65536 % 256 ∷ w / 16777216 % 256 ∷ []

-- four bytes of a block, from place i on
abbrev pub bytes_from : List ℕ → ℕ → List ℕ
bytes_from s i = get_or s i 0 ∷ get_or s (i + 1) 0 ∷ get_or s (i + 2) 0 ∷ get_or s (i + 3) 0 ∷ []

-- the sixteen bytes of a state, in FIPS 197's order
abbrev pub state_of : State → List ℕ
state_of s = bytes_of s.a ++ bytes_of s.b ++ bytes_of s.c ++ bytes_of s.d

-- a column moved by one row, the last byte coming in first
abbrev pub turned : List ℕ → List ℕ
turned x = get_or x 3 0 ∷ get_or x 0 0 ∷ get_or x 1 0 ∷ get_or x 2 0 ∷ []

-- two columns, added byte by byte
abbrev pub plus : List ℕ → List ℕ → List ℕ
plus x y =
    (get_or x 0 0 ⊕ get_or y 0 0) ∷ (get_or x 1 0 ⊕ get_or y 1 0) ∷ (get_or x 2 0 ⊕ get_or y 2 0) ∷ (get_or x 3 0 ⊕ get_or y 3 0) ∷ []

-- 5.1.3, (5.6): the column of a, b, c and d after MixColumns
abbrev pub spread : ℕ → ℕ → ℕ → ℕ → List ℕ
spread a b c d = (2 • a ⊕ 3 • b ⊕ c ⊕ d) ∷ (2 • b ⊕ 3 • c ⊕ d ⊕ a) ∷ (2 • c ⊕ 3 • d ⊕ a ⊕ b) ∷ (2 • d ⊕ 3 • a ⊕ b ⊕ c) ∷ []

-- a column without MixColumns
abbrev pub plain : ℕ → ℕ → ℕ → ℕ → List ℕ
plain a b c d = a ∷ b ∷ c ∷ d ∷ []

-- m of the bytes that ShiftRows puts into one column: row r of the r-th of the columns a to d
abbrev pub picked : (ℕ → ℕ → ℕ → ℕ → List ℕ) → ℕ → ℕ → ℕ → ℕ → List ℕ
picked m a b c d = m (a % 256) (b / 256 % 256) (c / 65536 % 256) (d / 16777216 % 256)

-- 5.1.3, (5.6): what a byte s in row 0 adds to its column in MixColumns; in row r it is that, turned r times
abbrev pub part : ℕ → List ℕ
part s = 2 • s ∷ s ∷ s ∷ 3 • s ∷ []

-- the table holds what the substitution of each byte adds
pub record RoundTable (t : List ℕ) : Type 0 where
  pub rule : (b : ℕ) → b < 256 → bytes_of (get_or t b 0) ≡ part (sub_byte b)

-- the one table of 256 words that does: for each byte the number whose bytes, the lowest first, are those of `part`
abbrev pub word_of : ℕ → ℕ → ℕ → ℕ → ℕ
word_of a b c d = a + b * 256 + c * 65536 + d * 16777216

unfoldable pub round_table : List ℕ
round_table = table 256 (λ b. word_of (2 • sub_byte b) (sub_byte b) (sub_byte b) (3 • sub_byte b))

-- ---- the cipher over any table t of 256 words; over a RoundTable it is FIPS 197's (Laws: `by-table`)
-- a column of a round, its rows being the bytes a to d: their entries, that of row r turned r times, added
abbrev pub spread_by : List ℕ → ℕ → ℕ → ℕ → ℕ → List ℕ
spread_by t a b c d =
    plus (plus (plus (bytes_of (get_or t a 0)) (turned (bytes_of (get_or t b 0)))) (turned (turned (bytes_of (get_or t c 0)))))
    (turned (turned (turned (bytes_of (get_or t d 0)))))

-- a column of the last round: the second bytes of their entries
abbrev pub plain_by : List ℕ → ℕ → ℕ → ℕ → ℕ → List ℕ
plain_by t a b c d = get_or t a 0 / 256 % 256 ∷ get_or t b 0 / 256 % 256 ∷ get_or t c 0 / 256 % 256 ∷ get_or t d 0 / 256 % 256 ∷ []

-- m of the bytes that ShiftRows puts into column c of a state, and all four columns
abbrev pub column_by : (ℕ → ℕ → ℕ → ℕ → List ℕ) → List ℕ → ℕ → List ℕ
column_by m s c = m (cell s 0 c) (cell s 1 (c + 1)) (cell s 2 (c + 2)) (cell s 3 (c + 3))

abbrev pub columns_by : (ℕ → ℕ → ℕ → ℕ → List ℕ) → List ℕ → List ℕ
columns_by m s = column_by m s 0 ++ column_by m s 1 ++ column_by m s 2 ++ column_by m s 3

-- the state after rounds 1 to n, and the block s under the round keys ks, as `rounds` and `cipher`
unfoldable pub rounds_by : List ℕ → ℕ → List (List ℕ) → List ℕ → List ℕ
rounds_by t zero ks s = s
rounds_by t (suc n) ks s = add_round_key (columns_by (spread_by t) (rounds_by t n ks s)) (get_or ks (suc n) [])

unfoldable pub cipher_by : List ℕ → List (List ℕ) → List ℕ → List ℕ
cipher_by t ks s = add_round_key (columns_by (plain_by t) (rounds_by t 9 ks (add_round_key s (get_or ks 0 [])))) (get_or ks 10 [])
