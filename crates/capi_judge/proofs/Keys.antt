-- What the code reads of a key where it stands, and what the key's definitions say of it.
use Prim.Native.Nat.{ℕ, zero, suc, ◌+◌, ◌*◌, ◌/◌, ◌%◌, ◌^◌, ◌<◌, ◌≤◌}
use mathlib.Core.Path.{◌≡◌, refl, ap, ◌∙◌}
use mathlib.Core.Bool.{Bool, true, false, not, cond, ◌&&◌}
use mathlib.Core.List.{List}
use native.Mathlib.Omega.{arith}
use native.Mathlib.Nat.{one-mul}
use borrow.Author.Tests.{eq-eqb, le-leb, lt-leb}
use lib.Bits.{bit_or}
use lib.Dec.{leb, eqb}
use lib.ListN.{length, take, drop, get_or, set, length-drop}
use lib.Pow.{shl_exact}
use lib.Seq.{get_or-drop, drop-drop, length-take-le}
use Rattle.key_image.specs.Key.{key_part}
use Rattle.link_key.specs.AdditionalInfo.{no_additional_info}
use Rattle.link_key.specs.Key.{valid_key, has_no_additional_info}
use Rattle.link_key.specs.declared.Key.{Key}
use Rattle.link_key.specs.declared.additional_info.AdditionalInfo.TheVariants.{Absent, Four, Eight}
use Rattle.link_key.specs.set.Seen.{flagged, flag, joins, noted}

-- ---- a flag
bit-clear : (x : ℕ) → x < 2 → eqb x 0 ≡ not (eqb x 1)
bit-clear zero h = refl
bit-clear (suc zero) h = refl
bit-clear (suc (suc x)) h = absurd (omega arith)

module _ (seen : List ℕ) (i : ℕ) where
  pub was-clear : eqb ((get_or seen (i % 8) 0 / 2 ^ (i / 8)) % 2) 0 ≡ not (flagged seen i)
  was-clear = bit-clear ((get_or seen (i % 8) 0 / 2 ^ (i / 8)) % 2) (omega arith)

  pub flag-set : i < 256 → set seen (i % 8) (bit_or (get_or seen (i % 8) 0) ((1 * 2 ^ (i / 8)) % 2 ^ 32)) ≡ flag seen i
  flag-set h = rw (shl_exact {a = 1} 1 (i / 8) 32 (omega arith) (omega arith), one-mul (2 ^ (i / 8)))

-- ---- a key at a place
coded : (a b : Bool) (i : ℕ → ℕ)
    → no_additional_info (cond a Absent (cond b (Four (i 0) (i 1) (i 2) (i 3)) (Eight (i 0) (i 1) (i 2) (i 3) (i 4) (i 5) (i 6) (i 7)))) ≡ a
coded true b i = refl
coded false true i = refl
coded false false i = refl

module _ (s : List ℕ) (at : ℕ) where
  abbrev key : Key
  key = key_part.get (drop at s)

  byte_at : (n : ℕ) → get_or (drop n (drop at s)) 0 0 ≡ get_or s (at + n) 0
  byte_at n =
      let e : at + n + 0 ≡ at + n = omega arith in
      ap (λ (t : List ℕ). get_or t 0 0) (drop-drop n at s) ∙ get_or-drop (at + n) s 0 0 ∙ ap (λ (m : ℕ). get_or s m 0) e

  named-so : key.identifier ≡ get_or s at 0
  named-so = let e : at + 0 ≡ at = omega arith in get_or-drop at s 0 0 ∙ ap (λ (m : ℕ). get_or s m 0) e

  used-so : key.usage ≡ get_or s (at + 1) 0
  used-so = byte_at 1

  info-place : drop 16 (drop 1 (drop 1 (drop at s))) ≡ drop 18 (drop at s)
  info-place = ap (drop 16) (drop-drop 1 1 (drop at s)) ∙ drop-drop 16 2 (drop at s)

  pub plain-so : has_no_additional_info key ≡ eqb (get_or s (at + 18) 0) 0
  unfolding has_no_additional_info
  plain-so =
      let t = drop 16 (drop 1 (drop 1 (drop at s))) in
      coded (eqb (get_or t 0 0) 0) (eqb (get_or t 0 0) 4) (λ i. get_or (take 8 (drop 1 t)) i 0)
      ∙ ap (λ (n : ℕ). eqb n 0) (ap (λ (u : List ℕ). get_or u 0 0) info-place ∙ byte_at 18)

  long-so : at + 27 ≤ length s → length key.value ≡ 16
  long-so h =
      length-take-le 16 (drop 1 (drop 1 (drop at s)))
      (omega (arith, length-drop 1 (drop 1 (drop at s)), length-drop 1 (drop at s), length-drop at s))

  valid-so : at + 27 ≤ length s → ¬ (get_or s at 0 ≡ 0) → get_or s at 0 < 256 → get_or s (at + 1) 0 ≤ 14 → valid_key key ≡ true
  unfolding valid_key
  valid-so h i b u =
      rw (
        named-so,
        used-so,
        le-leb 1 (get_or s at 0) (omega (arith, i)),
        le-leb (get_or s at 0) 255 (omega arith),
        le-leb (get_or s (at + 1) 0)
            14 u,
        eq-eqb (length key.value) 16 (long-so h),
      )

  nameless : get_or s at 0 ≡ 0 → valid_key key ≡ false
  unfolding valid_key
  nameless e = rw (named-so, e)

and_no : (a b d : Bool) → (a && b && false && d) ≡ false
and_no true true d = refl
and_no true false d = refl
and_no false b d = refl

module _ (s : List ℕ) (at : ℕ) where
  useless : 14 < get_or s (at + 1) 0 → valid_key (key s at) ≡ false
  unfolding valid_key
  useless h =
      rw (used-so s at, lt-leb (get_or s (at + 1) 0) 14 h)
      (and_no (leb 1 (key s at).identifier) (leb (key s at).identifier 255) (eqb (length (key s at).value) 16))

module _ (seen : List ℕ) (k : Key) where
  out : valid_key k ≡ false → (false ≡ joins seen k) × (seen ≡ noted seen k)
  unfolding joins noted
  out e = (rw e, rw e)

  in-limits : (i : ℕ) → k.identifier ≡ i → valid_key k ≡ true → (not (flagged seen i) ≡ joins seen k) × (flag seen i ≡ noted seen k)
  unfolding joins noted
  in-limits i f e = (rw (e, f), rw (e, f))

module _ (s : List ℕ) (at : ℕ) (seen : List ℕ) where
  pub no_name : get_or s at 0 ≡ 0 → (false ≡ joins seen (key s at)) × (seen ≡ noted seen (key s at))
  no_name e = out seen (key s at) (nameless s at e)

  pub no-use : 14 < get_or s (at + 1) 0 → (false ≡ joins seen (key s at)) × (seen ≡ noted seen (key s at))
  no-use e = out seen (key s at) (useless s at e)

  pub key-told : {r : Bool} {after : List ℕ} → at + 27 ≤ length s → ¬ (get_or s at 0 ≡ 0) → get_or s at 0 < 256 → get_or s (at + 1) 0 ≤ 14
      → r ≡ not (flagged seen (get_or s at 0)) → after ≡ flag seen (get_or s at 0)
      → (r ≡ joins seen (key s at)) × (after ≡ noted seen (key s at))
  key-told h i b u e f =
      let w = in-limits seen (key s at) (get_or s at 0) (named-so s at) (valid-so s at h i b u) in
      (e ∙ w.0, f ∙ w.1)
