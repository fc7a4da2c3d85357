-- Numbers in bytes: division by 256 gives the bytes, and the bytes give the number again.
-- Assumes nothing.
use Rattle.std.specs.Prelude.{ℕ, zero, suc, ◌+◌, ◌*◌, ◌/◌, ◌%◌, ◌^◌, ◌<◌, ◌≤◌, ◌≡◌, refl, List, [], ◌∷◌, length, take, get_or}
use Rattle.std.specs.Int.{from_be_bytes}
use Rattle.std.proofs.Common.{w32, w64, ap, sym, ◌∙◌, arith, pow-suc, take-suc}
use Rattle.byte_io.specs.BigEndian.{bytes_of, digits, big_endian}
use Rattle.byte_io.specs.BigEndianLemmas.{digits_append, digits-bytes_of}

-- what was put is read
pub read_back : (k n : ℕ) → n < 256 ^ k → big_endian (bytes_of k n) ≡ n
read_back k n h = digits-bytes_of k 0 n h ∙ omega arith

-- one byte more
pub next-byte : (s : List ℕ) (k : ℕ) → k < length s → big_endian (take (suc k) s) ≡ big_endian (take k s) * 256 + get_or s k 0
unfolding digits
next-byte s k h = ap big_endian (take-suc s k 0 h) ∙ digits_append 0 (take k s) (get_or s k 0 ∷ [])

-- k bytes hold a number below 256 to the k
pub below : (s : List ℕ) (k : ℕ) → ((i : ℕ) → get_or s i 0 < 256) → k ≤ length s → big_endian (take k s) < 256 ^ k
unfolding digits
below s zero b h = omega arith
below s (suc k) b h = rw (next-byte s k (omega arith), pow-suc 256 k) (omega (arith, below s k b (omega arith), b k))

-- what was read is put as it stood
pub put_back : (s : List ℕ) (k : ℕ) → ((i : ℕ) → get_or s i 0 < 256) → k ≤ length s → bytes_of k (big_endian (take k s)) ≡ take k s
unfolding bytes_of digits
put_back s zero b h = refl
put_back s (suc k) b h =
    let n = big_endian (take k s) in
    let x = get_or s k 0 in
    let l : x < 256 = b k in
    let e : (n * 256 + x) / 256 ≡ n = omega arith in
    let f : (n * 256 + x) % 256 ≡ x = omega arith in
    rw (next-byte s k (omega arith), e, f, put_back s k b (omega arith)) (sym (take-suc s k 0 (omega arith)))

-- ---- std's bytes, the most significant first, hold the same number
pub four_bytes : (s : List ℕ) → length s ≡ 4 → from_be_bytes w32 s ≡ big_endian s
unfolding digits
four_bytes [] h = absurd (omega arith)
four_bytes (a ∷ []) h = absurd (omega arith)
four_bytes (a ∷ b ∷ []) h = absurd (omega arith)
four_bytes (a ∷ b ∷ c ∷ []) h = absurd (omega arith)
four_bytes (a ∷ b ∷ c ∷ d ∷ []) h = omega arith
four_bytes (a ∷ b ∷ c ∷ d ∷ e ∷ s) h = absurd (omega arith)

pub eight_bytes : (s : List ℕ) → length s ≡ 8 → from_be_bytes w64 s ≡ big_endian s
unfolding digits
eight_bytes [] k = absurd (omega arith)
eight_bytes (a ∷ []) k = absurd (omega arith)
eight_bytes (a ∷ b ∷ []) k = absurd (omega arith)
eight_bytes (a ∷ b ∷ c ∷ []) k = absurd (omega arith)
eight_bytes (a ∷ b ∷ c ∷ d ∷ []) k = absurd (omega arith)
eight_bytes (a ∷ b ∷ c ∷ d ∷ e ∷ []) k = absurd (omega arith)
eight_bytes (a ∷ b ∷ c ∷ d ∷ e ∷ f ∷ []) k = absurd (omega arith)
eight_bytes (a ∷ b ∷ c ∷ d ∷ e ∷ f ∷ g ∷ []) k = absurd (omega arith)
eight_bytes (a ∷ b ∷ c ∷ d ∷ e ∷ f ∷ g ∷ h ∷ []) k = omega arith
eight_bytes (a ∷ b ∷ c ∷ d ∷ e ∷ f ∷ g ∷ h ∷ i ∷ s) k = absurd (omega arith)
