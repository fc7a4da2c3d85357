-- Words and their bytes. Xor of words is xor of their bytes, so a column that the code adds up from the table is MixColumns' column,
-- and the sixteen bytes of a round agree by computation.
-- Assumes nothing.
use mathlib.Core.Path.{◌≡◌, refl, sym, ◌∙◌, ap, ap₂}
use mathlib.Core.List.{List, [], ◌∷◌, ◌++◌}
use Prim.Native.Nat.{ℕ, ◌+◌, ◌*◌, ◌/◌, ◌%◌, ◌^◌, ◌<◌}
use native.Mathlib.Nat.{mod-eq_of_lt}
use native.Mathlib.Omega.{arith}
use Rattle.std.specs.Int.Bits.{bit_or, bit_xor, xor_shr, xor_mod}
use Rattle.std.proofs.lemmas.Nat.{or_shifted}
use lib.ListN.{get_or}
use Rattle.lemmas.specs.lists.Digits as number
use Rattle.lemmas.specs.lists.Xor.{◌⊕◌}
use Rattle.lemmas.specs.lists.XorLemmas.{turn}
use Rattle.lemmas.specs.lists.Table.{table}
use Rattle.aes.specs.Field.{◌•◌, sub_byte}
use Rattle.aes.specs.Cipher.{sub_bytes, shift_rows, mix_columns, add_round_key}
use Rattle.aes.specs.Bounds.{Bytes}
use Rattle.aes.specs.BoundsLemmas.{none, one, joined as both}
use Rattle.aes.specs.Words.{bytes_of, bytes_from, turned, plus, spread, part, RoundTable, picked, plain, spread_by, plain_by, columns_by}

byte_of : (k x y : ℕ) → bit_xor x y / 2 ^ k % 2 ^ 8 ≡ bit_xor (x / 2 ^ k % 2 ^ 8) (y / 2 ^ k % 2 ^ 8)
byte_of k x y = ap (λ (n : ℕ). n % 2 ^ 8) (xor_shr x y k) ∙ xor_mod (x / 2 ^ k) (y / 2 ^ k) 8

pub column-eq : {a b c d e f g h : ℕ} → a ≡ e → b ≡ f → c ≡ g → d ≡ h → a ∷ b ∷ c ∷ d ∷ [] ≡ e ∷ f ∷ g ∷ h ∷ []
column-eq p q r s = cc

-- xor of words is xor of their bytes
xor_bytes : (x y : ℕ) → bytes_of (x ⊕ y) ≡ plus (bytes_of x) (bytes_of y)
unfolding ◌⊕◌
xor_bytes x y = column-eq (xor_mod x y 8) (byte_of 8 x y) (byte_of 16 x y) (byte_of 24 x y)

pub add-bytes : (x y : ℕ) {l m : List ℕ} → bytes_of x ≡ l → bytes_of y ≡ m → bytes_of (x ⊕ y) ≡ plus l m
add-bytes x y e f = xor_bytes x y ∙ ap₂ plus e f

pub word_bytes : (a b c d : ℕ) → a < 256 → b < 256 → c < 256 → d < 256
    → bytes_of (a + b * 256 + c * 65536 + d * 16777216) ≡ a ∷ b ∷ c ∷ d ∷ []
word_bytes a b c d ha hb hc hd = column-eq (omega arith) (omega arith) (omega arith) (omega arith)

-- a word below 2^32 is the number of its four bytes
pub digits : (w : ℕ) → w < 4294967296
    → w ≡ w % 256 + w / 256 % 256 * 256 + w / 65536 % 256 * 65536 + w / 16777216 % 256 * 16777216
digits w h =
    let small : w / 16777216 < 256 = omega arith in
    number.digits w
    ∙ ap (λ (x : ℕ). w % 256 + w / 256 % 256 * 256 + w / 65536 % 256 * 65536 + x * 16777216) (sym (mod-eq_of_lt small))

-- a word given by its bytes, turned
turn-once : (a b c d : ℕ) → a < 256 → b < 256 → c < 256 → d < 256
    → (let w = a + b * 256 + c * 65536 + d * 16777216 in bytes_of (w % 16777216 * 256 + w / 16777216)) ≡ d ∷ a ∷ b ∷ c ∷ []
turn-once a b c d ha hb hc hd =
    let w = a + b * 256 + c * 65536 + d * 16777216 in
    let e : w % 16777216 * 256 + w / 16777216 ≡ d + a * 256 + b * 65536 + c * 16777216 = omega arith in
    ap bytes_of e ∙ word_bytes d a b c hd ha hb hc

once-bytes : (w : ℕ) → w < 4294967296 → bytes_of (w % 16777216 * 256 + w / 16777216) ≡ turned (bytes_of w)
once-bytes w h =
    ap (λ (x : ℕ). bytes_of (x % 16777216 * 256 + x / 16777216)) (digits w h)
    ∙ turn-once (w % 256) (w / 256 % 256) (w / 65536 % 256) (w / 16777216 % 256) (omega arith) (omega arith) (omega arith) (omega arith)

-- the word rotated by eight bits
pub rotated-bytes : (w : ℕ) → w < 4294967296 → bytes_of (bit_or (w * 256 % 4294967296) (w / 16777216)) ≡ turned (bytes_of w)
rotated-bytes w h =
    let e : w * 256 % 4294967296 ≡ w % 16777216 * 2 ^ 8 = omega arith in
    rw (e, or_shifted (w % 16777216) 8 (w / 16777216) (omega arith)) (once-bytes w h)

parts : (a b c d : ℕ)
    → plus (plus (plus (part a) (turned (part b))) (turned (turned (part c)))) (turned (turned (turned (part d)))) ≡ spread a b c d
parts a b c d =
    column-eq refl (turn a (2 • b) (3 • c) d) (turn a b (2 • c) (3 • d) ∙ turn b (2 • c) (3 • d) a) (sym (turn (2 • d) (3 • a) b c))

-- a column as the code makes it: from the table's entries, those of rows 1 to 3 turned into p, q and r, and the word k of the round key
pub column-bytes : (t : List ℕ) (a b c d p q r k : ℕ)
    → bytes_of p ≡ turned (bytes_of (get_or t b 0)) → bytes_of q ≡ turned (turned (bytes_of (get_or t c 0)))
    → bytes_of r ≡ turned (turned (turned (bytes_of (get_or t d 0))))
    → bytes_of (get_or t a 0 ⊕ p ⊕ q ⊕ r ⊕ k) ≡ plus (spread_by t a b c d) (bytes_of k)
column-bytes t a b c d p q r k ep eq er =
    add-bytes (get_or t a 0 ⊕ p ⊕ q ⊕ r) k
    (add-bytes (get_or t a 0 ⊕ p ⊕ q) r (add-bytes (get_or t a 0 ⊕ p) q (add-bytes (get_or t a 0) p refl ep) eq) er)
    refl

-- ---- a right table: its columns are those of the substituted bytes
added-up : (p q r s : List ℕ) {e f g h : List ℕ} → p ≡ e → q ≡ f → r ≡ g → s ≡ h
    → plus (plus (plus p (turned q)) (turned (turned r))) (turned (turned (turned s)))
    ≡ plus (plus (plus e (turned f)) (turned (turned g))) (turned (turned (turned h)))
added-up p q r s pe qf rg sh = rw (pe, qf, rg, sh)

module _ {t : List ℕ} (holds : RoundTable t) (a b c d : ℕ) (ha : a < 256) (hb : b < 256) (hc : c < 256) (hd : d < 256) where
  pub spread-right : spread_by t a b c d ≡ spread (sub_byte a) (sub_byte b) (sub_byte c) (sub_byte d)
  spread-right =
      added-up (bytes_of (get_or t a 0)) (bytes_of (get_or t b 0)) (bytes_of (get_or t c 0)) (bytes_of (get_or t d 0)) (holds.rule a ha)
      (holds.rule b hb) (holds.rule c hc) (holds.rule d hd)
      ∙ parts (sub_byte a) (sub_byte b) (sub_byte c) (sub_byte d)

  pub plain-right : plain_by t a b c d ≡ plain (sub_byte a) (sub_byte b) (sub_byte c) (sub_byte d)
  plain-right =
      column-eq (ap (λ (l : List ℕ). get_or l 1 0) (holds.rule a ha)) (ap (λ (l : List ℕ). get_or l 1 0) (holds.rule b hb))
      (ap (λ (l : List ℕ). get_or l 1 0) (holds.rule c hc)) (ap (λ (l : List ℕ). get_or l 1 0) (holds.rule d hd))

-- four columns, one after the other
pub joined : {a b c d e f g h : List ℕ} → a ≡ e → b ≡ f → c ≡ g → d ≡ h → a ++ b ++ c ++ d ≡ e ++ f ++ g ++ h
joined p q r s = cc

-- what a round begins with: two blocks, added
pub begun : (s k : List ℕ)
    → plus (bytes_from s 0) (bytes_from k 0) ++ plus (bytes_from s 4) (bytes_from k 4) ++ plus (bytes_from s 8) (bytes_from k 8)
    ++ plus (bytes_from s 12) (bytes_from k 12) ≡ add_round_key s k
unfolding add_round_key table
begun s k = refl

-- the four columns of a round: from the words p to s of the round key and the columns w to z that the code makes of them
pub columns : (m : ℕ → ℕ → ℕ → ℕ → List ℕ) (a b c d : ℕ) (k : List ℕ) (p q r s w x y z : ℕ)
    → bytes_of p ≡ bytes_from k 0 → bytes_of q ≡ bytes_from k 4 → bytes_of r ≡ bytes_from k 8 → bytes_of s ≡ bytes_from k 12
    → bytes_of w ≡ plus (picked m a b c d) (bytes_of p) → bytes_of x ≡ plus (picked m b c d a) (bytes_of q)
    → bytes_of y ≡ plus (picked m c d a b) (bytes_of r) → bytes_of z ≡ plus (picked m d a b c) (bytes_of s)
    → bytes_of w ++ bytes_of x ++ bytes_of y ++ bytes_of z
    ≡ plus (picked m a b c d) (bytes_from k 0) ++ plus (picked m b c d a) (bytes_from k 4)
    ++ plus (picked m c d a b) (bytes_from k 8) ++ plus (picked m d a b c) (bytes_from k 12)
columns m a b c d k p q r s w x y z ep eq er es ew ex ey ez =
    joined (ew ∙ ap (λ (l : List ℕ). plus (picked m a b c d) l) ep) (ex ∙ ap (λ (l : List ℕ). plus (picked m b c d a) l) eq)
    (ey ∙ ap (λ (l : List ℕ). plus (picked m c d a b) l) er) (ez ∙ ap (λ (l : List ℕ). plus (picked m d a b c) l) es)

pub rounded : (t : List ℕ) (a b c d : ℕ) (k : List ℕ)
    → plus (picked (spread_by t) a b c d) (bytes_from k 0) ++ plus (picked (spread_by t) b c d a) (bytes_from k 4)
    ++ plus (picked (spread_by t) c d a b) (bytes_from k 8) ++ plus (picked (spread_by t) d a b c) (bytes_from k 12)
    ≡ add_round_key (columns_by (spread_by t) (bytes_of a ++ bytes_of b ++ bytes_of c ++ bytes_of d)) k
unfolding add_round_key table
rounded t a b c d k = refl

pub finished : (t : List ℕ) (a b c d : ℕ) (k : List ℕ)
    → plus (picked (plain_by t) a b c d) (bytes_from k 0) ++ plus (picked (plain_by t) b c d a) (bytes_from k 4)
    ++ plus (picked (plain_by t) c d a b) (bytes_from k 8) ++ plus (picked (plain_by t) d a b c) (bytes_from k 12)
    ≡ add_round_key (columns_by (plain_by t) (bytes_of a ++ bytes_of b ++ bytes_of c ++ bytes_of d)) k
unfolding add_round_key table
finished t a b c d k = refl

-- ---- the steps of FIPS 197 on a state, column by column
abbrev pub spread_of : ℕ → ℕ → ℕ → ℕ → List ℕ
spread_of a b c d = spread (sub_byte a) (sub_byte b) (sub_byte c) (sub_byte d)

abbrev pub plain_of : ℕ → ℕ → ℕ → ℕ → List ℕ
plain_of a b c d = plain (sub_byte a) (sub_byte b) (sub_byte c) (sub_byte d)

pub mixed-columns : (s k : List ℕ) → add_round_key (columns_by spread_of s) k ≡ add_round_key (mix_columns (shift_rows (sub_bytes s))) k
unfolding sub_bytes shift_rows mix_columns add_round_key table
mixed-columns s k = refl

pub plain-columns : (s k : List ℕ) → add_round_key (columns_by plain_of s) k ≡ add_round_key (shift_rows (sub_bytes s)) k
unfolding sub_bytes shift_rows add_round_key table
plain-columns s k = refl

module _ {t : List ℕ} (holds : RoundTable t) (s k : List ℕ) (f : Bytes s) where
  pub round-right : add_round_key (columns_by (spread_by t) s) k ≡ add_round_key (mix_columns (shift_rows (sub_bytes s))) k
  round-right =
      ap (λ (x : List ℕ). add_round_key x k)
      (joined (spread-right holds _ _ _ _ (f _) (f _) (f _) (f _)) (spread-right holds _ _ _ _ (f _) (f _) (f _) (f _))
      (spread-right holds _ _ _ _ (f _) (f _) (f _) (f _)) (spread-right holds _ _ _ _ (f _) (f _) (f _) (f _)))
      ∙ mixed-columns s k

  pub finish-right : add_round_key (columns_by (plain_by t) s) k ≡ add_round_key (shift_rows (sub_bytes s)) k
  finish-right =
      ap (λ (x : List ℕ). add_round_key x k)
      (joined (plain-right holds _ _ _ _ (f _) (f _) (f _) (f _)) (plain-right holds _ _ _ _ (f _) (f _) (f _) (f _))
      (plain-right holds _ _ _ _ (f _) (f _) (f _) (f _)) (plain-right holds _ _ _ _ (f _) (f _) (f _) (f _)))
      ∙ plain-columns s k

-- the sixteen bytes of four words are bytes
word-all : (w : ℕ) → Bytes (bytes_of w)
word-all w =
    one (w % 256) (w / 256 % 256 ∷ w / 65536 % 256 ∷ w / 16777216 % 256 ∷ []) (omega arith)
    (one (w / 256 % 256) (w / 65536 % 256 ∷ w / 16777216 % 256 ∷ []) (omega arith)
    (one (w / 65536 % 256) (w / 16777216 % 256 ∷ []) (omega arith) (one (w / 16777216 % 256) [] (omega arith) none)))

pub state-all : (a b c d : ℕ) → Bytes (bytes_of a ++ bytes_of b ++ bytes_of c ++ bytes_of d)
state-all a b c d =
    both (bytes_of a ++ bytes_of b ++ bytes_of c) (bytes_of d)
    (both (bytes_of a ++ bytes_of b) (bytes_of c) (both (bytes_of a) (bytes_of b) (word-all a) (word-all b)) (word-all c)) (word-all d)
