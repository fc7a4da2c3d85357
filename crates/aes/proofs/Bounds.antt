-- A block is of bytes where the key is: a substituted byte is one, whatever it stood for, and sums of bytes are bytes.
-- Assumes nothing.
use mathlib.Core.List.{List, [], ◌∷◌, ◌++◌}
use Prim.Native.Nat.{ℕ, zero, suc, ◌+◌, ◌*◌, ◌/◌, ◌%◌, ◌^◌, ◌<◌}
use native.Mathlib.Nat.{pow-suc}
use native.Mathlib.Omega.{arith}
use lib.ListN.{get_or}
use Rattle.lemmas.specs.lists.Xor.{◌⊕◌}
use Rattle.lemmas.specs.lists.Table.{table}
use Rattle.aes.specs.Field.{xtime, times, ◌•◌, affine_bit, affine_from, affine, sub_byte}
use Rattle.aes.specs.Cipher.{cell, sub_bytes, shift_rows, mixed, mix_columns, add_round_key, word, add_word}
use Rattle.aes.specs.Cipher.{rot_word, sub_word, rcon, next_key, round_keys, rounds, cipher}
use Rattle.aes.specs.Bounds.{Bytes}
use Rattle.aes.specs.BoundsLemmas.{xor-byte, none, one, joined, tabled}

-- ---- bytes
affine-bit : (b i : ℕ) → affine_bit b i < 2
unfolding affine_bit
affine-bit b i = omega arith

affine-from : (count i b : ℕ) → affine_from count i b < 2 ^ count
unfolding affine_from
affine-from zero i b = omega arith
affine-from (suc count) i b = rw (pow-suc 2 count) (omega (arith, affine-bit b i, affine-from count (suc i) b))

scaled : (x b : ℕ) → x < 2 → b < 256 → x * b < 256
scaled zero b l h = omega arith
scaled (suc zero) b l h = omega arith
scaled (suc (suc x)) b l h = absurd (omega arith)

sub-byte : (b : ℕ) → sub_byte b < 256
unfolding sub_byte affine
sub-byte b = affine-from 8 0 _

times-x : (b : ℕ) → b < 256 → xtime b < 256
unfolding xtime
times-x b h = xor-byte (b / 128 * 0x1b) (b * 2 % 256) (omega arith) (omega arith)

constant : (n : ℕ) → rcon n < 256
unfolding rcon
constant zero = omega arith
constant (suc n) = times-x (rcon n) (constant n)

-- ---- round keys
added : (a b : List ℕ) → Bytes a → Bytes b → Bytes (add_word a b)
added a b f g = tabled 4 (λ i. get_or a i 0 ⊕ get_or b i 0) (λ i. xor-byte (get_or a i 0) (get_or b i 0) (f i) (g i))

worded : (k : List ℕ) (j : ℕ) → Bytes k → Bytes (word k j)
worded k j f = tabled 4 (λ i. get_or k (4 * j + i) 0) (λ i. f (4 * j + i))

substituted : (w : List ℕ) → Bytes (sub_word w)
substituted w = tabled 4 (λ i. sub_byte (get_or w i 0)) (λ i. sub-byte (get_or w i 0))

next-key : (rc : ℕ) (k : List ℕ) → rc < 256 → Bytes k → Bytes (next_key rc k)
unfolding next_key
next-key rc k h f =
    let first = rc ∷ 0 ∷ 0 ∷ 0 ∷ [] in
    let c : Bytes first =
    one rc (0 ∷ 0 ∷ 0 ∷ []) h (one 0 (0 ∷ 0 ∷ []) (omega arith) (one 0 (0 ∷ []) (omega arith) (one 0 [] (omega arith) none))) in
    let turned = sub_word (rot_word (word k 3)) in
    let w0 = add_word (word k 0) (add_word turned first) in
    let w1 = add_word (word k 1) w0 in
    let w2 = add_word (word k 2) w1 in
    let w3 = add_word (word k 3) w2 in
    let b0 = added (word k 0) (add_word turned first) (worded k 0 f) (added turned first (substituted (rot_word (word k 3))) c) in
    let b1 = added (word k 1) w0 (worded k 1 f) b0 in
    let b2 = added (word k 2) w1 (worded k 2 f) b1 in
    let b3 = added (word k 3) w2 (worded k 3 f) b2 in
    joined (w0 ++ w1 ++ w2) w3 (joined (w0 ++ w1) w2 (joined w0 w1 b0 b1) b2) b3

abbrev Keys : List (List ℕ) → Type 0
Keys ks = (n : ℕ) → Bytes (get_or ks n [])

with-key : (ks : List (List ℕ)) (k : List ℕ) → Keys ks → Bytes k → Keys (ks ++ (k ∷ []))
with-key [] k f h zero = h
with-key [] k f h (suc n) = none
with-key (x ∷ ks) k f h zero = f 0
with-key (x ∷ ks) k f h (suc n) = with-key ks k (λ i. f (suc i)) h n

keyed : (n : ℕ) (key : List ℕ) → Bytes key → Keys (round_keys n key)
unfolding round_keys
keyed zero key f zero = f
keyed zero key f (suc n) = none
keyed (suc n) key f i =
    let ks = round_keys n key in
    let last = get_or ks n [] in
    with-key ks (next_key (rcon n) last) (keyed n key f) (next-key (rcon n) last (constant n) (keyed n key f n)) i

-- ---- the block
pub added-bytes : (s k : List ℕ) → Bytes s → Bytes k → Bytes (add_round_key s k)
unfolding add_round_key
added-bytes s k f g = tabled 16 (λ i. get_or s i 0 ⊕ get_or k i 0) (λ i. xor-byte (get_or s i 0) (get_or k i 0) (f i) (g i))

times-byte : (count a b : ℕ) → b < 256 → times count a b < 256
unfolding times
times-byte zero a b h = omega arith
times-byte (suc count) a b h =
    xor-byte (a % 2 * b) (times count (a / 2) (xtime b)) (scaled (a % 2) b (omega arith) h)
    (times-byte count (a / 2) (xtime b) (times-x b h))

product : (a b : ℕ) → b < 256 → a • b < 256
unfolding ◌•◌
product a b h = times-byte 8 a b h

-- a round leaves bytes, whatever it began with, where the round key is of bytes
pub mixed-bytes : (s k : List ℕ) → Bytes k → Bytes (add_round_key (mix_columns (shift_rows (sub_bytes s))) k)
unfolding mix_columns shift_rows sub_bytes
mixed-bytes s k g =
    let t = table 16 (λ i. sub_byte (get_or s i 0)) in
    let u : Bytes t = tabled 16 (λ i. sub_byte (get_or s i 0)) (λ i. sub-byte (get_or s i 0)) in
    let v : Bytes (shift_rows t) = tabled 16 (λ i. cell t (i % 4) (i / 4 + i % 4)) (λ i. u _) in
    let w : Bytes (mix_columns (shift_rows t)) = tabled 16 (λ i. mixed (shift_rows t) (i % 4) (i / 4)) (λ i.
    xor-byte _ _ (xor-byte _ _ (xor-byte _ _ (product 2 _ (v _)) (product 3 _ (v _))) (v _)) (v _)) in
    added-bytes (mix_columns (shift_rows t)) k w g

pub block-bytes : (key block : List ℕ) → Bytes key → Bytes (cipher (round_keys 10 key) block)
unfolding cipher add_round_key shift_rows sub_bytes
block-bytes key block f =
    let ks = round_keys 10 key in
    let s = rounds 9 ks (add_round_key block (get_or ks 0 [])) in
    let t = table 16 (λ i. sub_byte (get_or s i 0)) in
    let u : Bytes t = tabled 16 (λ i. sub_byte (get_or s i 0)) (λ i. sub-byte (get_or s i 0)) in
    let v : Bytes (shift_rows t) = tabled 16 (λ i. cell t (i % 4) (i / 4 + i % 4)) (λ i. u _) in
    tabled 16 _ (λ i. xor-byte (get_or (shift_rows t) i 0) (get_or (get_or ks 10 []) i 0) (v i) (keyed 10 key f 10 i))
