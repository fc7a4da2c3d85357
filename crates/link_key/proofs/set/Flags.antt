-- Setting a flag sets that one and no other, so the flags of the keys so far stay exact with each key more.
use Prim.Native.Nat.{ℕ, zero, suc, ◌+◌, ◌-◌, ◌*◌, ◌/◌, ◌%◌, ◌^◌, ◌<◌, ◌≤◌}
use native.Mathlib.Omega.{arith}
use mathlib.Core.Path.{◌≡◌, refl, ap, sym, ◌∙◌}
use mathlib.Core.Bool.{Bool, true, false, not, cond, ◌&&◌, ◌||◌, or-false, or-true}
use mathlib.Core.List.{List, [], ◌∷◌, ◌++◌, append_assoc, append-nil}
use native.Mathlib.Nat.{one-mul, zero-div, div_self, div-eq_of_lt}
use native.Mathlib.Numerals.{add-one}
use borrow.Author.Tests.{eqb-true, eqb-false, eq-eqb, ne_eqb, ltb-true, ltb-false, leb-true, not-true}
use lib.Bits.{bit_or, or_shr, or_mod, or_zero_r, shifted_even}
use lib.Dec.{leb, ltb, eqb}
use lib.ListN.{length, take, drop, get_or, set, replicate, length-set}
use lib.Pow.{pow-lt, pow-add, pow_pos, shl-shr, shl_exact}
use lib.Seq.{get_or-set_same, get_or-set_other, take-suc, split_at}
use Rattle.lemmas.specs.logic.Tests.{both_left, both_right}
use Rattle.link_key.specs.usage.Usage.{listed}
use Rattle.link_key.specs.Key.{valid_key}
use Rattle.link_key.specs.declared.Key.{Key}
use Rattle.link_key.specs.set.KeySet.{has, each_once}
use Rattle.link_key.specs.set.Seen.{flagged, flag, joins, noted, all_join, Exactly, OneMore}
use Rattle.link_key.proofs.set.KeySets.{has-append, once_more, not-once}

-- ---- the bits of a word
lower-bit : (a b : ℕ) → b < a → (2 ^ b / 2 ^ a) % 2 ≡ 0
lower-bit a b h = rw (div-eq_of_lt (pow-lt h))

higher-bit : (a k : ℕ) → (2 ^ (suc k + a) / 2 ^ a) % 2 ≡ 0
higher-bit a k = rw (pow-add 2 (suc k) a, shl-shr (2 ^ suc k) a, ← one-mul (2 ^ suc k)) (shifted_even 1 k)

-- a power of two has one bit
other-bit : (a b : ℕ) → (a ≡ b → ⊥) → (2 ^ b / 2 ^ a) % 2 ≡ 0
other-bit a b apart = go (ltb b a) refl
  where
    go : (t : Bool) → ltb b a ≡ t → (2 ^ b / 2 ^ a) % 2 ≡ 0
    go true e = lower-bit a b (ltb-true b a e)
    go false e =
        let k = (b - a) - 1 in
        let z : b ≡ suc k + a = omega (arith, ltb-false b a e, apart) in
        rw z (higher-bit a k)

or-bit : (w a b : ℕ) → (bit_or w (2 ^ b) / 2 ^ a) % 2 ≡ bit_or ((w / 2 ^ a) % 2) ((2 ^ b / 2 ^ a) % 2)
or-bit w a b = ap (λ (x : ℕ). x % 2) (or_shr w (2 ^ b) a) ∙ or_mod (w / 2 ^ a) (2 ^ b / 2 ^ a) 1

or-one : (x : ℕ) → x < 2 → bit_or x 1 ≡ 1
or-one zero h = refl
or-one (suc zero) h = refl
or-one (suc (suc x)) h = absurd (omega arith)

module _ (w a b : ℕ) where
  set-bit : a ≡ b → (bit_or w (2 ^ b) / 2 ^ a) % 2 ≡ 1
  set-bit e = or-bit w a b ∙ rw (e, div_self (pow_pos b)) (or-one ((w / 2 ^ b) % 2) (omega arith))

  kept-bit : (a ≡ b → ⊥) → (bit_or w (2 ^ b) / 2 ^ a) % 2 ≡ (w / 2 ^ a) % 2
  kept-bit apart = or-bit w a b ∙ rw (other-bit a b apart) (or_zero_r ((w / 2 ^ a) % 2))

-- ---- the flags
-- the bit of an identifier in a word
abbrev bit_in : ℕ → ℕ → Bool
bit_in w i = eqb ((w / 2 ^ (i / 8)) % 2) 1

module _ (seen : List ℕ) (d i : ℕ) (room : d % 8 < length seen) where
  abbrev word : ℕ
  word = get_or seen (d % 8) 0

  abbrev more : ℕ
  more = bit_or word (2 ^ (d / 8))

  flag-set : flagged (flag seen d) i ≡ (flagged seen i || eqb d i)
  flag-set = go (eqb (i % 8) (d % 8)) refl (eqb (i / 8) (d / 8)) refl
    where
      go : (p : Bool) → eqb (i % 8) (d % 8) ≡ p → (q : Bool) → eqb (i / 8) (d / 8) ≡ q
          → flagged (flag seen d) i ≡ (flagged seen i || eqb d i)
      go false e q f =
          let apart = eqb-false (i % 8) (d % 8) e in
          rw (get_or-set_other seen (d % 8) (i % 8) more 0 apart, ne_eqb d i (λ z. apart (ap (λ (n : ℕ). n % 8) (sym z))))
          (sym (or-false (flagged seen i)))
      go true e true f =
          let place = eqb-true (i % 8) (d % 8) e in
          let bit = eqb-true (i / 8) (d / 8) f in
          let z : d ≡ i = omega arith in
          rw (place, get_or-set_same seen (d % 8) more 0 room, set-bit word (i / 8) (d / 8) bit, eq-eqb d i z)
          (sym (or-true (bit_in word i)))
      go true e false f =
          let place = eqb-true (i % 8) (d % 8) e in
          let apart = eqb-false (i / 8) (d / 8) f in
          let other = ne_eqb d i (λ z. apart (ap (λ (n : ℕ). n / 8) (sym z))) in
          rw (place, get_or-set_same seen (d % 8) more 0 room, kept-bit word (i / 8) (d / 8) apart, other) (sym (or-false (bit_in word i)))

no_word : (n j : ℕ) → get_or (replicate n zero) j zero ≡ zero
no_word zero j = refl
no_word (suc n) zero = refl
no_word (suc n) (suc j) = no_word n j

pub exactly-none : Exactly (replicate 8 0) []
exactly-none = record { words = refl; flags = λ i. rw (no_word 8 (i % 8), zero-div (2 ^ (i / 8))) }

-- ---- one key more
bit-clear : (x : ℕ) → x < 2 → eqb x 0 ≡ not (eqb x 1)
bit-clear zero h = refl
bit-clear (suc zero) h = refl
bit-clear (suc (suc x)) h = absurd (omega arith)

byte_high : (k : Key) → valid_key k ≡ true → k.identifier ≤ 255
unfolding valid_key
byte_high k ok =
    let least = leb 1 k.identifier in
    let most = leb k.identifier 255 in
    leb-true k.identifier 255
    (both_right least most (both_left (least && most) (listed k.usage)
    (both_left (least && most && listed k.usage) (eqb (length k.value) 16) ok)))

module _ (seen : List ℕ) (k : Key) where
  -- what the code asks and sets
  pub asked : valid_key k ≡ true → eqb ((get_or seen (k.identifier % 8) 0 / 2 ^ (k.identifier / 8)) % 2) 0 ≡ joins seen k
  unfolding joins
  asked ok = rw ok (bit-clear ((get_or seen (k.identifier % 8) 0 / 2 ^ (k.identifier / 8)) % 2) (omega arith))

  pub set-in :
      valid_key k ≡ true →
      set seen (k.identifier % 8) (bit_or (get_or seen (k.identifier % 8) 0) ((1 * 2 ^ (k.identifier / 8)) % 2 ^ 32)) ≡ noted seen k
  unfolding noted
  set-in ok = rw (
    ok,
    shl_exact {a = 1} 1 (k.identifier / 8) 32 (omega (arith, byte_high k ok)) (omega (arith, byte_high k ok)),
    one-mul (2 ^ (k.identifier / 8)),
  )

  pub outside-none : valid_key k ≡ false → (joins seen k ≡ false) × (noted seen k ≡ seen)
  unfolding joins noted
  outside-none out = (rw out, rw out)

  module _ (ks : List Key) (so_far : Exactly seen ks) where
    own : valid_key k ≡ true → Exactly (flag seen k.identifier) (ks ++ (k ∷ []))
    own ok =
        let high = byte_high k ok in
        record {
          words = length-set seen (k.identifier % 8) _ ∙ so_far.words;
          flags = λ i.
              flag-set seen k.identifier i (omega (arith, so_far.words))
              ∙ rw (so_far.flags i, has-append i ks (k ∷ []), or-false (eqb k.identifier i));
        }

    noted-exact : Exactly (noted seen k) (cond (valid_key k) (ks ++ (k ∷ [])) ks)
    unfolding noted
    noted-exact = go (valid_key k) refl
      where
        go : (b : Bool) → valid_key k ≡ b → Exactly (noted seen k) (cond (valid_key k) (ks ++ (k ∷ [])) ks)
        go true e = rw e (own e)
        go false e = rw e so_far

    told-by : joins seen k ≡ (valid_key k && not (has k.identifier ks))
    unfolding joins
    told-by = rw (so_far.flags k.identifier)

    pub one_more : (joined : Bool) (after : List ℕ) → joined ≡ joins seen k → after ≡ noted seen k → OneMore ks k joined after
    one_more joined after e f =
        let told = e ∙ told-by in
        let new = not (has k.identifier ks) in
        record {
          exact = rw f noted-exact;
          told = told;
          next = λ in-set. rw f (rw (both_left (valid_key k) new (sym told ∙ in-set)) at noted-exact);
          good = λ in-set ok.
              let both = sym told ∙ in-set in
              once_more ks k ok (both_left (valid_key k) new both) (not-true (has k.identifier ks) (both_right (valid_key k) new both));
          bad = λ out js. not-once ks k js (sym told ∙ out);
        }

-- ---- a whole set, after the keys js
told-after : (js ks : List Key) (seen : List ℕ) → Exactly seen js → each_once js ≡ true → all_join seen ks ≡ each_once (js ++ ks)
told-after js [] seen e ok = rw (append-nil js) (sym ok)
told-after js (k ∷ ks) seen e ok = go (joins seen k) refl (λ s x y. told-after (js ++ (k ∷ [])) ks s x y)
  where
    go : (b : Bool) → joins seen k ≡ b
        → ((s : List ℕ) → Exactly s (js ++ (k ∷ [])) → each_once (js ++ (k ∷ [])) ≡ true
        → all_join s ks ≡ each_once ((js ++ (k ∷ [])) ++ ks))
        → (joins seen k && all_join (noted seen k) ks) ≡ each_once (js ++ (k ∷ ks))
    go true h again =
        let m = one_more seen k js e true (noted seen k) (sym h) refl in
        rw h (again (noted seen k) (m.next refl) (m.good refl ok) ∙ ap each_once (append_assoc js (k ∷ []) ks))
    go false h again = rw h (sym ((one_more seen k js e false (noted seen k) (sym h) refl).bad refl ks))

pub all_told : (ks : List Key) → all_join (replicate 8 0) ks ≡ each_once ks
all_told ks = told-after [] ks (replicate 8 0) exactly-none refl

-- ---- the loop over a set: exactly the flags of the keys before the place are set, and those keys are as they must be
pub record Judging (ks : List Key) (i : ℕ) (seen : List ℕ) : Type 0 where
  pub exact : Exactly seen (take i ks)
  pub good : each_once (take i ks) ≡ true

module _ (ks : List Key) (i : ℕ) (seen : List ℕ) (w : Judging ks i seen) where
  module _ (d : Key) (h : i < length ks) (joined : Bool) (after : List ℕ) (m : OneMore (take i ks) (get_or ks i d) joined after) where
    pub judged-bad : joined ≡ false → each_once ks ≡ false
    judged-bad e = rw (split_at ks i d h) (m.bad e (drop (suc i) ks))

    pub judged-more : joined ≡ true → Judging ks (i + 1) after
    judged-more e =
        let more : take (i + 1) ks ≡ take i ks ++ (get_or ks i d ∷ []) = rw (add-one i, take-suc ks i d h) in
        record { exact = rw more (m.next e); good = rw more (m.good e w.good) }
