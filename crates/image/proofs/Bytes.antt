-- std's bytes of a number, the most significant first, are its digits to the base of 256; in more than eight bytes zeros stand in front.
-- Assumes nothing.
use Rattle.std.specs.Prelude.{ℕ, zero, suc, ◌+◌, ◌-◌, ◌*◌, ◌/◌, ◌%◌, ◌^◌, ◌≤◌, ◌<◌, ◌≡◌, refl, List, [], ◌∷◌, ◌++◌, length, take, drop, replicate}
use Rattle.std.specs.Int.{bytes_high_first, byte_at, from_be_bytes}
use Rattle.std.proofs.Common.{w64, ap, ap₂, sym, ◌∙◌, arith, pow-suc, append_assoc, append-nil, length-append, length-drop, take_all, drop_of_length-le}
use Rattle.std.proofs.Common.{length-take-le, take_at, drop_at, drop-drop}
use Rattle.std.proofs.Math.Nat.{div-div-eq-div-mul, div-lt_iff_lt-mul}
use Rattle.std.proofs.lemmas.List.{length-replicate, take-replicate, replicate_more}
use Rattle.byte_io.specs.BigEndian.{digits, big_endian, bytes_of}
use Rattle.byte_io.specs.BigEndianLemmas.{length-bytes_of}
use Rattle.byte_io.specs.Write.{Wrote}
use Rattle.image.specs.Numbers.{eight_bytes}

next_byte : (k n : ℕ) → byte_at k (n / 256) ≡ byte_at (suc k) n
next_byte zero n = refl
next_byte (suc k) n =
    let e : 256 ^ suc (suc k) ≡ 256 * 256 ^ suc k = pow-suc 256 (suc k) ∙ omega arith in
    rw e (ap (λ (x : ℕ). x % 256) (div-div-eq-div-mul n 256 (256 ^ suc k)))

last_byte : (k n : ℕ) → bytes_high_first k (n / 256) ++ (n % 256 ∷ []) ≡ bytes_high_first (suc k) n
last_byte zero n = refl
last_byte (suc k) n = ap₂ (λ (b : ℕ) (s : List ℕ). b ∷ s) (next_byte k n) (last_byte k n)

same_bytes : (k n : ℕ) → bytes_of k n ≡ bytes_high_first k n
unfolding bytes_of
same_bytes zero n = refl
same_bytes (suc k) n = ap (λ (s : List ℕ). s ++ (n % 256 ∷ [])) (same_bytes k (n / 256)) ∙ last_byte k n

-- the last k of the bytes
last_bytes : (j k m n : ℕ) → m ≡ j + k → drop j (bytes_high_first m n) ≡ bytes_of k n
last_bytes zero k m n e = let f : m ≡ k = omega arith in rw f (sym (same_bytes k n))
last_bytes (suc j) k zero n e = absurd (omega arith)
last_bytes (suc j) k (suc m) n e = last_bytes j k m n (omega arith)

zeros_of : (j n : ℕ) → n ≡ 0 → bytes_of j n ≡ replicate j 0
unfolding bytes_of
zeros_of zero n e = refl
zeros_of (suc j) n e =
    let f : n % 256 ≡ 0 = omega arith in
    let g : suc j ≡ j + 1 = omega arith in
    ap₂ (λ (s : List ℕ) (b : ℕ). s ++ (b ∷ [])) (zeros_of j (n / 256) (omega arith)) f
    ∙ replicate_more j 0
    ∙ ap (λ (i : ℕ). replicate i 0) (sym g)

-- a number that fits k bytes has zeros in front of them
zeros_front : (j k m n : ℕ) → m ≡ j + k → n < 256 ^ k → bytes_of m n ≡ replicate j 0 ++ bytes_of k n
unfolding bytes_of
zeros_front j zero m n e h =
    let f : m ≡ j = omega arith in
    rw f (zeros_of j n (omega arith) ∙ sym (append-nil (replicate j 0)))
zeros_front j (suc k) zero n e h = absurd (omega arith)
zeros_front j (suc k) (suc m) n e h =
    let l : n / 256 < 256 ^ k = (div-lt_iff_lt-mul {k = 256} {x = n} {y = 256 ^ k} (omega arith)).1 (rw (pow-suc 256 k) at h) in
    ap (λ (s : List ℕ). s ++ (n % 256 ∷ [])) (zeros_front j k m (n / 256) (omega arith) l)
    ∙ append_assoc (replicate j 0) (bytes_of k (n / 256)) (n % 256 ∷ [])

in_all : (w z n : ℕ) → z ≡ w - 8 → n < 256 ^ 8 → replicate z 0 ++ bytes_of (w - z) n ≡ bytes_of w n
in_all w zero n e h = let f : w - 0 ≡ w = omega arith in rw f refl
in_all w (suc z) n e h =
    let f : w - suc z ≡ 8 = omega arith in
    rw f (sym (zeros_front (suc z) 8 w n (omega arith) h))

-- zeros, and over what follows them the last bytes
pub written : (d : List ℕ) (w n z : ℕ) (f x : List ℕ) → n < 256 ^ 8 → w ≤ length d → z ≡ w - 8
    → f ≡ replicate (length (take z d)) 0 → x ≡ take (8 - (8 + z - w)) (drop (8 + z - w) (bytes_high_first 8 n))
    → Wrote (bytes_of w n) d w (take z (f ++ drop z d) ++ (x ++ drop (w - z) (drop z (f ++ drop z d))))
written d w n z f x h l e g k =
    let m : length (take z d) ≡ z = length-take-le z d (omega arith) in
    let a : f ≡ replicate z 0 = g ∙ ap (λ (i : ℕ). replicate i 0) m in
    let b : length f ≡ z = ap length a ∙ length-replicate z 0 in
    let o : 8 - (8 + z - w) ≡ w - z = omega arith in
    let p : drop (8 + z - w) (bytes_high_first 8 n) ≡ bytes_of (w - z) n = last_bytes (8 + z - w) (w - z) 8 n (omega arith) in
    let q : length (bytes_of (w - z) n) ≡ w - z = length-bytes_of (w - z) n in
    let y : x ≡ bytes_of (w - z) n = k ∙ (rw (o, p) (take_all (w - z) (bytes_of (w - z) n) (omega arith))) in
    let u : drop (w - z) (drop z (f ++ drop z d)) ≡ drop w d =
    ap (drop (w - z)) (drop_at f (drop z d) z b) ∙ drop-drop (w - z) z d ∙ ap (λ (i : ℕ). drop i d) (omega arith) in
    let v : take z (f ++ drop z d) ≡ replicate z 0 = take_at f (drop z d) z b ∙ a in
    let many : length (bytes_of w n) ≡ w = length-bytes_of w n in
    record {
      many = sym many;
      holds = rw (v, y, u, many, ← in_all w z n e h) (sym (append_assoc (replicate z 0) (bytes_of (w - z) n) (drop w d)));
    }

-- zeros in front count nothing
zeros_counted : (j : ℕ) (s : List ℕ) → big_endian (replicate j 0 ++ s) ≡ big_endian s
unfolding digits
zeros_counted zero s = refl
zeros_counted (suc j) s = zeros_counted j s

-- w bytes over the last w of eight zeros
pub loaded : (s : List ℕ) (at w : ℕ) (x : List ℕ) → at + w ≤ length s → w ≤ 8 → x ≡ take (at + w - at) (drop at s)
    → from_be_bytes w64 (take (8 - w) (replicate 8 0) ++ (x ++ drop (8 - (8 - w)) (drop (8 - w) (replicate 8 0)))) ≡ big_endian (take w (drop at s))
loaded s at w x h k e =
    let n : at + w - at ≡ w = omega arith in
    let y : x ≡ take w (drop at s) = (rw n at e) in
    let many : length x ≡ w = ap length y ∙ length-take-le w (drop at s) (omega (arith, length-drop at s)) in
    let a : take (8 - w) (replicate {A = ℕ} 8 0) ≡ replicate (8 - w) 0 = take-replicate (8 - w) 8 0 (omega arith) in
    let b : drop (8 - (8 - w)) (drop (8 - w) (replicate {A = ℕ} 8 0)) ≡ [] =
    drop_of_length-le (drop (8 - w) (replicate 8 0)) (omega (arith, length-drop {A = ℕ} (8 - w) (replicate 8 0))) in
    let zeros : length (replicate {A = ℕ} (8 - w) 0) ≡ 8 - w = length-replicate (8 - w) 0 in
    let size : length (replicate {A = ℕ} (8 - w) 0 ++ x) ≡ 8 = length-append (replicate (8 - w) 0) x ∙ omega arith in
    rw (a, b, append-nil x)
    (eight_bytes (replicate (8 - w) 0 ++ x) size ∙ zeros_counted (8 - w) x ∙ ap big_endian y)
