-- FIPS 197 (2001), section 5, for a key of 128 bits. A state is the list of its sixteen bytes in the order of the input:
-- byte r + 4 c is row r of column c.
use Rattle.std.specs.Prelude.{List, [], ◌∷◌, ◌++◌, ℕ, zero, suc, ◌+◌, ◌*◌, ◌/◌, ◌%◌, get_or}
use Rattle.lemmas.specs.lists.Table.{table}
use Rattle.lemmas.specs.lists.Xor.{◌⊕◌}
use Rattle.aes.specs.Field.{◌•◌, xtime, sub_byte}

-- 3.4: the byte in row r and column c, both counted modulo 4
abbrev pub cell : List ℕ → ℕ → ℕ → ℕ
cell s r c = get_or s (r % 4 + 4 * (c % 4)) 0

-- 5.1.1
unfoldable pub sub_bytes : List ℕ → List ℕ
sub_bytes s = table 16 (λ i. sub_byte (get_or s i 0))

-- 5.1.2: row r moves r places to the left
unfoldable pub shift_rows : List ℕ → List ℕ
shift_rows s = table 16 (λ i. cell s (i % 4) (i / 4 + i % 4))

-- 5.1.3, (5.6), one byte of a column
abbrev pub mixed : List ℕ → ℕ → ℕ → ℕ
mixed s r c = 2 • cell s r c ⊕ 3 • cell s (r + 1) c ⊕ cell s (r + 2) c ⊕ cell s (r + 3) c

unfoldable pub mix_columns : List ℕ → List ℕ
mix_columns s = table 16 (λ i. mixed s (i % 4) (i / 4))

-- 5.1.4
unfoldable pub add_round_key : List ℕ → List ℕ → List ℕ
add_round_key s k = table 16 (λ i. get_or s i 0 ⊕ get_or k i 0)

-- 5.2: words of four bytes
abbrev pub word : List ℕ → ℕ → List ℕ
word k j = table 4 (λ i. get_or k (4 * j + i) 0)

abbrev pub add_word : List ℕ → List ℕ → List ℕ
add_word a b = table 4 (λ i. get_or a i 0 ⊕ get_or b i 0)

abbrev pub rot_word : List ℕ → List ℕ
rot_word w = table 4 (λ i. get_or w ((i + 1) % 4) 0)

abbrev pub sub_word : List ℕ → List ℕ
sub_word w = table 4 (λ i. sub_byte (get_or w i 0))

-- 5.2: the first byte of round constant n + 1: x^n
unfoldable pub rcon : ℕ → ℕ
rcon zero = 1
rcon (suc n) = xtime (rcon n)

-- 5.2: the four words after the four words of k, where rc is the round constant's first byte
unfoldable pub next_key : ℕ → List ℕ → List ℕ
next_key rc k =
    let w0 = add_word (word k 0) (add_word (sub_word (rot_word (word k 3))) (rc ∷ 0 ∷ 0 ∷ 0 ∷ [])) in
    let w1 = add_word (word k 1) w0 in
    let w2 = add_word (word k 2) w1 in
    let w3 = add_word (word k 3) w2 in
    w0 ++ w1 ++ w2 ++ w3

-- 5.2: the round keys 0 to n
unfoldable pub round_keys : ℕ → List ℕ → List (List ℕ)
round_keys zero key = key ∷ []
round_keys (suc n) key = let ks = round_keys n key in ks ++ (next_key (rcon n) (get_or ks n []) ∷ [])

-- 5.1, figure 5: the state after rounds 1 to n, from the state s before round 1
unfoldable pub rounds : ℕ → List (List ℕ) → List ℕ → List ℕ
rounds zero ks s = s
rounds (suc n) ks s = add_round_key (mix_columns (shift_rows (sub_bytes (rounds n ks s)))) (get_or ks (suc n) [])

-- 5.1, figure 5: the block s under the round keys ks
unfoldable pub cipher : List (List ℕ) → List ℕ → List ℕ
cipher ks s = add_round_key (shift_rows (sub_bytes (rounds 9 ks (add_round_key s (get_or ks 0 []))))) (get_or ks 10 [])

-- AES-128 of the block s
unfoldable pub encrypted : List ℕ → List ℕ → List ℕ
encrypted key s = cipher (round_keys 10 key) s
