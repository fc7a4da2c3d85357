-- Lemmas: nothing here has to be believed.
-- Numbers in bytes: division by 256 gives the bytes, and the bytes give the number again, one byte after the other.
use Rattle.std.specs.Prelude.{ℕ, zero, suc, ◌+◌, ◌*◌, ◌-◌, ◌/◌, ◌%◌, ◌^◌, ◌≤◌, ◌<◌, ◌≡◌, refl, List, [], ◌∷◌, ◌++◌, length, take, drop, set, get_or}
use Rattle.std.proofs.Common.{ap, ◌∙◌, arith, add-one, pow-suc, div-lt_iff_lt-mul, mul_assoc, length-append, append_assoc, append-nil, drop-cons, drop_of_length-le}
use Rattle.lemmas.specs.lists.BigEndian.{part-cons, drop-set, grows, grown-fits}
use Rattle.byte_io.specs.BigEndian.{digits, big_endian, bytes_of}

-- ---- written
pub digits_append : (v : ℕ) (a b : List ℕ) → digits v (a ++ b) ≡ digits (digits v a) b
unfolding digits
digits_append v [] b = refl
digits_append v (x ∷ a) b = digits_append (v * 256 + x) a b

pub length-bytes_of : (k n : ℕ) → length (bytes_of k n) ≡ k
unfolding bytes_of
length-bytes_of zero n = refl
length-bytes_of (suc k) n = omega (arith, length-append (bytes_of k (n / 256)) (n % 256 ∷ []), length-bytes_of k (n / 256))

pub digits-bytes_of : (k v n : ℕ) → n < 256 ^ k → digits v (bytes_of k n) ≡ v * 256 ^ k + n
unfolding bytes_of digits
digits-bytes_of zero v n h = omega arith
digits-bytes_of (suc k) v n h =
    let l : n / 256 < 256 ^ k = (div-lt_iff_lt-mul {k = 256} {x = n} {y = 256 ^ k} (omega arith)).1 (rw (pow-suc 256 k) at h) in
    digits_append v (bytes_of k (n / 256)) (n % 256 ∷ [])
    ∙ ap (λ (x : ℕ). x * 256 + n % 256) (digits-bytes_of k v (n / 256) l)
    ∙ rw (pow-suc 256 k, ← mul_assoc v (256 ^ k) 256) (omega arith)

-- ---- written from the last byte on: what is still to come before place i, and what stands from there on
pub bytes_step : (l : List ℕ) (i v : ℕ) → 0 < i → i ≤ length l
    → bytes_of i v ++ drop i l ≡ bytes_of (i - 1) (v / 256) ++ drop (i - 1) (set l (i - 1) (v % 256))
unfolding bytes_of
bytes_step l zero v h k = absurd (omega arith)
bytes_step l (suc i) v h k =
    let e : suc i - 1 ≡ i = omega arith in
    rw (e, drop-set l i (v % 256) (omega arith))
    (append_assoc (bytes_of i (v / 256)) (v % 256 ∷ []) (drop (suc i) l))

pub bytes_start : (l : List ℕ) (v : ℕ) → bytes_of (length l) v ++ drop (length l) l ≡ bytes_of (length l) v
bytes_start l v = rw (drop_of_length-le l {i = length l} (omega arith)) (append-nil _)

pub bytes_end : (l : List ℕ) (i v : ℕ) → i ≤ 0 → bytes_of i v ++ drop i l ≡ l
unfolding bytes_of
bytes_end l i v h = let e : i ≡ 0 = omega arith in rw e

-- ---- read from the first byte on: v was read of the first i bytes of s
pub record ReadTo (s : List ℕ) (i v : ℕ) : Type 0 where
  pub small : v < 256 ^ i
  pub so_far : digits v (drop i s) ≡ big_endian s

pub read_none : (s : List ℕ) → ReadTo s 0 0
read_none s = record { small = omega arith; so_far = refl }

pub read_more : (s : List ℕ) (i v : ℕ) → ReadTo s i v → i < length s → get_or s i 0 < 256
    → ReadTo s (i + 1) (v * 256 + get_or s i 0)
unfolding digits
read_more s i v r h b =
    record {
      small = grows v (get_or s i 0) i r.small b;
      so_far = ap (digits (v * 256 + get_or s i 0)) (ap (λ j. drop j s) (add-one i)) ∙ rw (drop-cons s i 0 h) at r.so_far;
    }

pub read_fits : (s : List ℕ) (i v b : ℕ) → ReadTo s i v → i < 8 → b < 256 → v * 256 + b < 2 ^ 64
read_fits s i v b r h k = grown-fits v b i r.small k h

pub read_all : (s : List ℕ) (i v : ℕ) → ReadTo s i v → length s ≤ i → v ≡ big_endian s
unfolding digits
read_all s i v r h = rw (drop_of_length-le s h) at r.so_far

-- ---- the same, by places
pub digits_step : (s : List ℕ) (v i end : ℕ) → i < end → end ≤ length s
    → digits v (take (end - i) (drop i s)) ≡ digits (v * 256 + get_or s i 0) (take (end - (i + 1)) (drop (i + 1) s))
unfolding digits
digits_step s v i end h l = rw (part-cons s i end h l)

pub digits-none : (v k : ℕ) (s : List ℕ) → k ≡ 0 → digits v (take k s) ≡ v
unfolding digits
digits-none v k s e = rw e
