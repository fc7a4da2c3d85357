-- The images are lawful by their tables; what the code reads at fixed places is what the fields get, one after the other.
use Prim.Native.Nat.{ℕ, zero, suc, ◌+◌, ◌*◌, ◌≤◌}
use mathlib.Core.Path.{◌≡◌, refl, ap, ap₂, sym, ◌∙◌, subst}
use mathlib.Core.Bool.{Bool, true, false, ◌&&◌, ◌||◌, and_assoc}
use mathlib.Core.List.{List, [], ◌∷◌}
use native.Mathlib.Omega.{arith}
use borrow.Author.Tests.{eqb-true, ne_eqb}
use lib.Dec.{eqb}
use lib.ListN.{length, take, drop, get_or, replicate, length-drop, drop_of_length-le}
use lib.Seq.{length-take-le, drop-cons, get_or-drop, drop-drop, drop_at, take-add}
use Rattle.lemmas.specs.logic.Tests.{both_left, both_right, both as both_true}
use Rattle.byte_io.specs.BigEndian.{digits, big_endian}
use Rattle.image.specs.Fields.{and-good}
use Rattle.image.specs.CodecLaws.{byte-lawful, number-lawful, octets-lawful, both-lawful, times-lawful, viewed-lawful}
use Rattle.image.specs.Part.{Part, RoundTrips, byte, number, octets, both, gets, goods}
use Rattle.link_key.specs.Key.{key_with_additional_info}
use Rattle.link_key.specs.declared.Key.{Key}
use Rattle.link_key.specs.declared.additional_info.AdditionalInfo.{AdditionalInfo}
use Rattle.link_key.specs.declared.additional_info.AdditionalInfo.TheVariants.{Absent, Four, Eight}
use Rattle.link_key.specs.set.Lists.{all_of}
use Rattle.link_key.specs.declared.set.key_set.KeySet.{KeySet}
use Rattle.key_image.specs.AdditionalInfo.{such, is_zero, is_padded_bytes, additional_info_to}
use Rattle.key_image.specs.AdditionalInfo.{additional_info_from, additional_info_fields, additional_info_part}
use Rattle.key_image.specs.Key.{key_fields, key_to, key_from, key_part, set_fields, set_to, set_from}
use Rattle.key_image.specs.Key.{key_set_part, counted_fields, counted_to, counted_from, counted_set_part}
use Rattle.key_image.specs.Laws.{KeyImages}

-- ---- additional information
such_lawful : {A : Type 0} (test : A → Bool) (p : Part A) → RoundTrips p → RoundTrips (such test p)
such_lawful test p l =
    record {
      sized = λ a h. l.sized a h.0;
      loaded = λ a r h. l.loaded a r h.0;
      stored = λ a r h. both_true _ _ (l.stored a r h.0) (ap test (l.loaded a r h.0) ∙ h.1);
      fits = λ s b h g. (l.fits s b h (both_left (p.good s) (test (p.get s)) g), both_right (p.good s) (test (p.get s)) g);
      back = λ s b h g. l.back s b h (both_left (p.good s) (test (p.get s)) g);
    }

all-zero : (s : List ℕ) → all_of is_zero s ≡ true → s ≡ replicate (length s) 0
all-zero [] g = refl
all-zero (b ∷ s) g =
    ap₂ (λ (x : ℕ) (y : List ℕ). x ∷ y) (eqb-true b 0 (both_left (is_zero b) (all_of is_zero s) g))
    (all-zero s (both_right (is_zero b) (all_of is_zero s) g))

info-again : (i : AdditionalInfo) → additional_info_to (additional_info_from i) ≡ i
info-again Absent = refl
info-again (Four a b c d) = refl
info-again (Eight a b c d e f g h) = refl

-- the first four of eight, and the others
four-first : (s : List ℕ) → length s ≡ 8 → get_or s 0 0 ∷ get_or s 1 0 ∷ get_or s 2 0 ∷ get_or s 3 0 ∷ drop 4 s ≡ s
four-first s e =
    rw (← drop-cons s 3 0 (omega arith), ← drop-cons s 2 0 (omega arith), ← drop-cons s 1 0 (omega arith), ← drop-cons s 0 0 (omega arith))

all-eight : (s : List ℕ) → length s ≡ 8
    → get_or s 0 0 ∷ get_or s 1 0 ∷ get_or s 2 0 ∷ get_or s 3 0 ∷ get_or s 4 0 ∷ get_or s 5 0 ∷ get_or s 6 0 ∷ get_or s 7 0 ∷ [] ≡ s
all-eight s e =
    rw (
      ← drop_of_length-le s {i = 8} (omega arith),
      ← drop-cons s 7 0 (omega arith),
      ← drop-cons s 6 0 (omega arith),
      ← drop-cons s 5 0 (omega arith),
      ← drop-cons s 4 0 (omega arith),
    ) (four-first s e)

zeros-after : (n : ℕ) (s : List ℕ) (k : ℕ) → n + k ≡ length s → all_of is_zero (drop n s) ≡ true → replicate k 0 ≡ drop n s
zeros-after n s k e g =
    let f : length (drop n s) ≡ k = omega (arith, length-drop n s) in
    sym (all-zero (drop n s) g ∙ ap (λ (i : ℕ). replicate i 0) f)

abbrev Undone : List ℕ → ℕ → Type 0
Undone s n = is_padded_bytes (n, s) ≡ true → additional_info_from (additional_info_to (n, s)) ≡ (n, s)

info-undone : (n : ℕ) (s : List ℕ) → length s ≡ 8 → (a b : Bool) → eqb n 0 ≡ a → eqb n 4 ≡ b → Undone s n
info-undone n s e true b p q =
    subst (Undone s) (sym (eqb-true n 0 p)) (λ g. ap (λ (t : List ℕ). (0, t)) (zeros-after 0 s 8 (sym e) g))
info-undone n s e false true p q =
    subst (Undone s) (sym (eqb-true n 4 q))
    (λ g. ap (λ (t : List ℕ). (4, t))
    (ap (λ (t : List ℕ). get_or s 0 0 ∷ get_or s 1 0 ∷ get_or s 2 0 ∷ get_or s 3 0 ∷ t) (zeros-after 4 s 4 (sym e) g) ∙ four-first s e))
info-undone n s e false false p q = λ g.
    let t : eqb n 8 ≡ true = ap (λ (b : Bool). b || eqb n 8) (sym q) ∙ ap (λ (b : Bool). b || eqb n 4 || eqb n 8) (sym p)
    ∙ both_left (eqb n 0 || eqb n 4 || eqb n 8) (all_of is_zero (drop n s)) g in
    subst (Undone s) (sym (eqb-true n 8 t)) (λ g. ap (λ (t : List ℕ). (8, t)) (all-eight s e)) g

info-lawful : RoundTrips additional_info_part
info-lawful =
    viewed-lawful additional_info_fields additional_info_to additional_info_from info-again
    (λ x h. info-undone x.0 x.1 h.0.1.0 (eqb x.0 0) (eqb x.0 4) refl refl h.1)
    (such_lawful is_padded_bytes (both byte (octets 8)) (both-lawful _ _ byte-lawful (octets-lawful 8)))

-- ---- keys and key sets
key-lawful : RoundTrips key_part
key-lawful =
    viewed-lawful key_fields key_to key_from (λ k. refl) (λ x h. refl)
    (both-lawful _ _ byte-lawful (both-lawful _ _ byte-lawful (both-lawful _ _ (octets-lawful 16) info-lawful)))

key-set-lawful : RoundTrips key_set_part
key-set-lawful =
    viewed-lawful set_fields set_to set_from (λ s. refl) (λ x h. refl)
    (both-lawful _ _ (number-lawful 1) (times-lawful key_part key-lawful 8))

counted-set-lawful : RoundTrips counted_set_part
counted-set-lawful =
    viewed-lawful counted_fields counted_to counted_from (λ s. refl) (λ x h. refl)
    (both-lawful _ _ key-set-lawful (times-lawful (number 4) (number-lawful 4) 8))

-- ---- bytes that are zeros
zero-sum : (v b : ℕ) → is_zero (v * 256 + b) ≡ (is_zero v && is_zero b)
zero-sum zero b = ap is_zero {x = 0 * 256 + b} {y = b} (omega arith)
zero-sum (suc v) b = rw (ne_eqb (suc v) 0 (λ e. omega arith)) (ne_eqb (suc v * 256 + b) 0 (λ e. omega arith))

zero-digits : (v : ℕ) (s : List ℕ) → is_zero (digits v s) ≡ (is_zero v && all_of is_zero s)
unfolding digits
zero-digits v [] = and-good (is_zero v)
zero-digits v (b ∷ s) =
    zero-digits (v * 256 + b) s
    ∙ ap (λ (x : Bool). x && all_of is_zero s) (zero-sum v b)
    ∙ and_assoc (is_zero v) (is_zero b) (all_of is_zero s)

-- a number is 0 if all its bytes are
zero_number : (s : List ℕ) → is_zero (big_endian s) ≡ all_of is_zero s
zero_number s = zero-digits 0 s

second-four : (u : List ℕ) → 4 ≤ length u → drop 4 (take 8 u) ≡ take 4 (drop 4 u)
second-four u h = ap (drop 4) (take-add 4 4 u) ∙ drop_at (take 4 u) (take 4 (drop 4 u)) 4 (length-take-le 4 u h)

same_key : {a b c d : ℕ} {v w : List ℕ} {i j : AdditionalInfo} → a ≡ c → b ≡ d → v ≡ w → i ≡ j
    → key_with_additional_info a b v i ≡ key_with_additional_info c d w j
same_key e f g h = rw (e, f, g, h)

-- ---- what stands at a place of the code is what the fields get, one after the other
module _ (s : List ℕ) (at : ℕ) where
  -- so many bytes further on
  past : (n : ℕ) → drop (at + n) s ≡ drop n (drop at s)
  past n = sym (drop-drop n at s)

  byte-got : (n : ℕ) → get_or s (at + n) 0 ≡ get_or (drop at s) n 0
  byte-got n = sym (get_or-drop at s n 0)

  first_byte : get_or (drop at s) 0 0 ≡ get_or s at 0
  first_byte =
      let e : at + 0 ≡ at = omega arith in
      get_or-drop at s 0 0 ∙ ap (λ (n : ℕ). get_or s n 0) e

  pub absent-judged :
      {n : ℕ} → get_or s at 0 ≡ 0 → n ≡ big_endian (take 8 (drop (at + 1) s)) → eqb n 0 ≡ additional_info_part.good (drop at s)
  absent-judged e f = rw (f, first_byte, e, past 1) (zero_number (take 8 (drop 1 (drop at s))))

  pub four-judged : {n : ℕ} → at + 9 ≤ length s → get_or s at 0 ≡ 4 → n ≡ big_endian (take 4 (drop (at + 5) s))
      → eqb n 0 ≡ additional_info_part.good (drop at s)
  four-judged h e f =
      let u = drop 1 (drop at s) in
      let g : 4 ≤ length u = omega (arith, length-drop 1 (drop at s), length-drop at s) in
      rw (f, first_byte, e, past 5, ← drop-drop 4 1 (drop at s), second-four u g) (zero_number (take 4 (drop 4 u)))

  key-info : drop (at + 18) s ≡ drop 16 (drop 1 (drop 1 (drop at s)))
  key-info = past 18 ∙ sym (ap (drop 16) (drop-drop 1 1 (drop at s)) ∙ drop-drop 16 2 (drop at s))

  pub key-got : {v : List ℕ} {i : AdditionalInfo} → v ≡ take 16 (drop (at + 2) s) → i ≡ additional_info_part.get (drop (at + 18) s)
      → key_with_additional_info (get_or s at 0) (get_or s (at + 1) 0) v i ≡ key_part.get (drop at s)
  key-got e f =
      same_key (sym first_byte) (byte-got 1 ∙ sym (get_or-drop 1 (drop at s) 0 0))
      (e ∙ ap (take 16) (past 2 ∙ sym (drop-drop 1 1 (drop at s)))) (f ∙ ap additional_info_part.get key-info)

  pub key-judged : {b : Bool} → b ≡ additional_info_part.good (drop (at + 18) s) → b ≡ key_part.good (drop at s)
  key-judged e = e ∙ ap additional_info_part.good key-info

  pub set-got : {n : ℕ} {ks : List Key} → n ≡ big_endian (take 1 (drop at s)) → ks ≡ gets key_part 8 (drop (at + 1) s)
      → set_to (n, ks) ≡ key_set_part.get (drop at s)
  set-got e f = rw (e, f, past 1)

  pub set-judged : {b : Bool} → b ≡ goods key_part 8 (drop (at + 1) s) → b ≡ key_set_part.good (drop at s)
  set-judged e = e ∙ ap (goods key_part 8) (past 1)

  pub counted-got : {set : KeySet} {cs : List ℕ} → set ≡ key_set_part.get (drop at s) → cs ≡ gets (number 4) 8 (drop (at + 217) s)
      → counted_to (set, cs) ≡ counted_set_part.get (drop at s)
  counted-got e f = rw (e, f, past 217)

pub key-images : KeyImages
key-images =
    record {
      info-size = refl;
      info = info-lawful;
      key-size = refl;
      key = key-lawful;
      key-set-size = refl;
      key_set = key-set-lawful;
      counted-set-size = refl;
      counted-set = counted-set-lawful;
    }
