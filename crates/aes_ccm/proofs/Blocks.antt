-- The blocks of a list of bytes, and the chain over them: each step takes in the next block, and the flags are those of the data.
-- Assumes nothing.
use Rattle.std.specs.Prelude.{◌≡◌, refl, List, [], ◌∷◌, ◌++◌, ℕ, suc, ◌+◌, ◌-◌, ◌/◌, ◌%◌, ◌<◌, ◌≤◌, min, length, get_or, take, drop}
use Rattle.std.specs.Prelude.{replicate}
use Rattle.std.proofs.Common.{sym, ap, ◌∙◌, arith, not-suc-le-zero, length-append, length-drop, drop_of_length-le, take_all}
use Rattle.std.proofs.lemmas.List.{get_or-take, get_or-drop, get_or_append_left, get_or-append_right, get_or_past, get_or-replicate}
use Rattle.std.proofs.lemmas.List.{take_at, drop_at, nil_from_length}
use native.Mathlib.Nat.{min-eq_left}
use native.Mathlib.Decide.{dec_lt}
use mathlib.Core.List.{append-nil}
use borrow.Rule.Slice.PartMut.{put_mid, post_of}
use lib.Seq.{length-take-le}
use Rattle.lemmas.specs.lists.TableLemmas.{table-self, table-ext}
use Rattle.aes.specs.Cipher.{cipher, add_round_key}
use Rattle.aes_ccm.specs.Ccm.{block, blocks_of, blocks, chain, headed, two, framing, last_of, first_block, flags}

count : (n : ℕ) → 0 < n → (n + 15) / 16 ≡ suc ((n - 16 + 15) / 16)
count n h = omega arith

pub blocks-cons : (bs : List ℕ) → 0 < length bs → blocks bs ≡ block bs ∷ blocks (drop 16 bs)
unfolding blocks blocks_of
blocks-cons bs h = rw (length-drop 16 bs, count (length bs) h)

pub blocks-nil : (bs : List ℕ) → length bs ≡ 0 → blocks bs ≡ []
unfolding blocks blocks_of
blocks-nil bs h = rw h

-- a block is made of the first sixteen bytes
block-take : (bs : List ℕ) → block (take 16 bs) ≡ block bs
unfolding block
block-take bs = table-ext 16 _ _ (λ i h. get_or-take 16 bs i 0 h)

beyond : (s : List ℕ) (i : ℕ) → i < 16 → Dec (i < length s) → get_or s i 0 ≡ get_or (s ++ drop (length s) (replicate 16 0)) i 0
beyond s i h (yes k) = sym (get_or_append_left s (drop (length s) (replicate 16 0)) 0 i k)
beyond s i h (no k) =
    let past : length s ≤ i = omega arith in
    get_or_past s i 0 past
    ∙ sym (
    get_or-append_right s (drop (length s) (replicate 16 0)) (length s) i 0 refl past
    ∙ get_or-drop (length s) (replicate 16 0) (i - length s) 0
    ∙ get_or-replicate 16 (length s + (i - length s)) 0 0 (omega arith))

-- at most sixteen bytes with zeros after them are their block
pub padded : (s : List ℕ) → length s ≤ 16 → s ++ drop (length s) (replicate 16 0) ≡ block s
unfolding block
padded s h =
    let long : length (s ++ drop (length s) (replicate 16 0)) ≡ 16
    = omega (arith, length-append s (drop (length s) (replicate 16 0)), length-drop {A = ℕ} (length s) (replicate 16 0)) in
    sym (table-self _ 0 16 _ long (λ i k. beyond s i k (dec_lt i (length s))))

-- a chunk is the first sixteen bytes, and the rest what follows them
chunk-front : (c t : List ℕ) → length c ≡ min 16 (length (c ++ t)) → Dec (length c < 16) → (take 16 (c ++ t) ≡ c) × (drop 16 (c ++ t) ≡ t)
chunk-front c t h (yes k) =
    let e : length (c ++ t) ≡ length c + length t = length-append c t in
    let none : t ≡ [] = nil_from_length t (omega arith) in
    let short : length c ≤ 16 = omega arith in
    rw (none, append-nil) (take_all 16 c short, drop_of_length-le c short)
chunk-front c t h (no k) =
    let e : length c ≡ 16 = omega arith in
    (take_at c t 16 e, drop_at c t 16 e)

-- one chunk more is taken in
pub chain-chunk : (ks : List (List ℕ)) (x c t : List ℕ) {y z r b : List ℕ} → r ≡ c ++ t → length c ≡ min 16 (length r) → 0 < length r
    → b ≡ block c → y ≡ add_round_key x b → z ≡ cipher ks y → chain ks z (blocks t) ≡ chain ks x (blocks r)
unfolding chain
chain-chunk ks x c t {y} {z} {r} {b} er h pos eb ey ez =
    let parts = chunk-front c t (h ∙ ap (λ (l : List ℕ). min 16 (length l)) er) (dec_lt (length c) 16) in
    let first : block r ≡ b = ap block er ∙ sym (block-take (c ++ t)) ∙ ap block parts.0 ∙ sym eb in
    let rest : drop 16 r ≡ t = ap (λ (l : List ℕ). drop 16 l) er ∙ parts.1 in
    sym (rw (blocks-cons r pos, rest, ez, ey, first))

pub chain-done : (ks : List (List ℕ)) (x r : List ℕ) → length r ≡ 0 → chain ks x (blocks r) ≡ x
unfolding chain
chain-done ks x r h = rw (blocks-nil r h)

pub chain-append : (ks : List (List ℕ)) (x : List ℕ) (bs cs : List (List ℕ)) → chain ks x (bs ++ cs) ≡ chain ks (chain ks x bs) cs
unfolding chain
chain-append ks x [] cs = refl
chain-append ks x (b ∷ bs) cs = chain-append ks (cipher ks (add_round_key x b)) bs cs

headed-some : (a : List ℕ) → 0 < length a → headed a ≡ two (length a) ++ a
unfolding headed
headed-some [] h = absurd (not-suc-le-zero h)
headed-some (x ∷ a) h = refl

front-of : (a : List ℕ) (n : ℕ) → n ≡ min (length a) 14 → Dec (length a < 14) → take n a ≡ take 14 a
front-of a n e (yes k) = take_all n a (omega arith) ∙ sym (take_all 14 a (omega arith))
front-of a n e (no k) = let q : n ≡ 14 = omega arith in rw q

tail-of : (a : List ℕ) (n : ℕ) → n ≡ min (length a) 14 → Dec (length a < 14) → drop 14 a ≡ drop n a
tail-of a n e (yes k) =
    let first : length a ≤ 14 = omega arith in
    let whole : length a ≤ n = omega arith in
    drop_of_length-le a first ∙ sym (drop_of_length-le a whole)
tail-of a n e (no k) = let q : n ≡ 14 = omega arith in rw q

-- the data's length and its first bytes, with zeros after them
pub headed-front : (a x y : List ℕ) (n : ℕ) → 0 < length a → n ≡ min (length a) 14 → x ≡ two (length a) → y ≡ take n a
    → put_mid 2 (2 + n - 2) (x ++ replicate 14 0) y ≡ block (headed a)
headed-front a x y n h e ex ey =
    let front = two (length a) ++ take n a in
    let long : length (take n a) ≡ n = length-take-le n a (omega arith) in
    let short : 2 + n - 2 ≡ n = omega arith in
    rw (ex, ey, short)
    (ap (λ (k : ℕ). front ++ drop k (replicate 14 0)) (sym long) ∙ padded front (omega (arith, long))
    ∙ ap (λ (l : List ℕ). block (two (length a) ++ l)) (front-of a n e (dec_lt (length a) 14)) ∙ block-take (two (length a) ++ a)
    ∙ ap block (sym (headed-some a h)))

-- the first block of the headed data taken in, and then the rest
pub data-step : (ks : List (List ℕ)) (x a : List ℕ) (n : ℕ) {y z b : List ℕ} → 0 < length a → n ≡ min (length a) 14 → b ≡ block (headed a)
    → y ≡ add_round_key x b → z ≡ cipher ks y → chain ks z (blocks (drop n a)) ≡ chain ks x (blocks (headed a))
unfolding chain
data-step ks x a n {y} {z} {b} h e eb ey ez =
    let pos : 0 < length (headed a) = rw (headed-some a h) (omega arith) in
    let tail : drop 16 (headed a) ≡ drop n a = rw (headed-some a h) (tail-of a n e (dec_lt (length a) 14)) in
    sym (rw (blocks-cons (headed a) pos, tail, ez, ey, eb))

-- ---- bytes written one after the other
pub two-bytes : (n : ℕ) → n < 65536 → n / 256 % 256 ∷ n % 256 ∷ [] ≡ two n
two-bytes n h = let e : n / 256 % 256 ≡ n / 256 = omega arith in rw e

pub framed-bytes : (f n : ℕ) (nonce x y : List ℕ) → length nonce ≡ 13 → x ≡ nonce → y ≡ two n
    → f ∷ (take 13 (x ++ f ∷ f ∷ []) ++ (y ++ post_of 14 2 (f ∷ (x ++ f ∷ f ∷ [])))) ≡ framing f nonce n
framed-bytes f n nonce x y h ex ey = rw (ex, ey, take_at nonce (f ∷ f ∷ []) 13 h, drop_at nonce (f ∷ f ∷ []) 13 h)

-- the chain without associated data, and with it
pub last_none : (ks : List (List ℕ)) (nonce a m x r : List ℕ) → length a ≡ 0 → x ≡ cipher ks (framing 0x19 nonce (length m))
    → r ≡ chain ks x (blocks m) → r ≡ last_of ks nonce a m
unfolding last_of first_block headed
last_none ks nonce [] m x r h ex er = rw (er, ex, blocks-nil [] refl)
last_none ks nonce (b ∷ a) m x r h ex er = absurd (omega arith)

flags-some : (a : List ℕ) → 0 < length a → flags a ≡ 0x59
flags-some a h = rw (min-eq_left h)

pub last_some : (ks : List (List ℕ)) (nonce a m x y r : List ℕ) → 0 < length a → x ≡ cipher ks (framing 0x59 nonce (length m))
    → y ≡ chain ks x (blocks (headed a)) → r ≡ chain ks y (blocks m) → r ≡ last_of ks nonce a m
unfolding last_of first_block
last_some ks nonce a m x y r h ex ey er = rw (er, ey, ex, chain-append, flags-some a h)
