-- What `read_head` and its parts answer, case by case of their returns.
use Rattle.std.specs.Prelude.{Ok, Err}
use Prim.Native.Nat.{ℕ, ◌+◌, ◌-◌, ◌/◌, ◌%◌, ◌^◌, ◌≤◌, ◌<◌}
use mathlib.Core.Bool.{Bool, true, false, cond}
use mathlib.Core.Path.{◌≡◌, refl, ap, ◌∙◌}
use mathlib.Core.List.{List, ◌∷◌}
use native.Mathlib.Omega.{arith}
use native.Mathlib.Decide.{dec_lt}
use native.Mathlib.Numerals.{add-one}
use borrow.Author.Tests.{le-ltb, lt-ltb, le-leb, lt-leb, eq-eqb}
use lib.Dec.{eqb}
use lib.ListN.{length, take, drop, get_or, length-drop, drop_of_length-le}
use lib.Seq.{drop-cons, drop-drop}
use Rattle.refusal.specs.declared.Refusal.{Refusal}
use Rattle.refusal.specs.declared.Refusal.TheVariants.{Cut, Form}
use Rattle.byte_io.specs.BigEndian.{big_endian}
use Rattle.cbor.specs.Decode.{refused, got, and_then, next, argument, heading}
use Rattle.cbor.specs.Answer.{head_answer, announced}
use Rattle.cbor.specs.Encode.{info_of}
use Rattle.cbor.specs.Strict.{is_short}

pub next-got : (n : ℕ) (s : List ℕ) → n ≤ length s → next n s ≡ got (take n s) (drop n s)
unfolding next
next-got n s h = simp (le-leb n (length s) h)

pub next-cut : (n : ℕ) (s : List ℕ) → length s < n → next n s ≡ refused Cut
unfolding next
next-cut n s h = simp (lt-leb n (length s) h)

pub argument-direct : (k : ℕ) (s : List ℕ) → k < 24 → argument k s ≡ got k s
unfolding argument
argument-direct k s h = simp (lt-ltb k 24 h)

pub argument-form : (k : ℕ) (s : List ℕ) → 27 < k → argument k s ≡ refused Form
unfolding argument
argument-form k s h =
    let l : 24 ≤ k = omega arith in
    simp (le-ltb k 24 l, lt-ltb 27 k h)

pub argument-wide : (k : ℕ) (s : List ℕ) → 24 ≤ k → k ≤ 27
    → argument k s ≡ and_then (next (2 ^ (k - 24)) s) (λ bs t. got (big_endian bs) t)
unfolding argument
argument-wide k s l h = simp (le-ltb k 24 l, le-ltb 27 k h)

-- an argument that stands in the first byte has no shorter head
pub direct-short : (major k : ℕ) → k < 24 → true ≡ is_short major k k
unfolding is_short info_of
direct-short major k h = rw (lt-ltb k 24 h, eq-eqb k k refl) (go (eqb major 7))
  where
    go : (b : Bool) → true ≡ cond b true true
    go true = refl
    go false = refl

-- ---- an argument, by the bytes from a place on
module _ (s : List ℕ) (k at end : ℕ) (e : end ≡ at + announced k) where
  -- its bytes are missing
  pub argument_cut : k ≤ 27 → at ≤ length s → length s < end → argument k (drop at s) ≡ refused Cut
  argument_cut h i l = go (dec_lt k 24)
    where
      go : Dec (k < 24) → argument k (drop at s) ≡ refused Cut
      go (yes a) = let f : end ≡ at + 0 = rw (lt-ltb k 24 a) at e in absurd (omega arith)
      go (no a) =
          let a' : 24 ≤ k = omega arith in
          let f : end ≡ at + 2 ^ (k - 24) = rw (le-ltb k 24 a') at e in
          let n : length (drop at s) < 2 ^ (k - 24) = omega (arith, length-drop at s) in
          argument-wide k (drop at s) a' h ∙ rw (next-cut (2 ^ (k - 24)) (drop at s) n)

  pub argument-whole : (v : ℕ) → 24 ≤ k → k ≤ 27 → end ≤ length s → v ≡ big_endian (take (end - at) (drop at s))
      → argument k (drop at s) ≡ got v (drop end s)
  argument-whole v l h i w =
      let f : end ≡ at + 2 ^ (k - 24) = rw (le-ltb k 24 l) at e in
      let g : end - at ≡ 2 ^ (k - 24) = omega arith in
      let j : 2 ^ (k - 24) ≤ length (drop at s) = omega (arith, length-drop at s) in
      argument-wide k (drop at s) l h ∙ rw (next-got (2 ^ (k - 24)) (drop at s) j, w, g, drop-drop (2 ^ (k - 24)) at s, ← f)

-- ---- a head: its first byte, and its argument in the bytes from a place on
module _ (s : List ℕ) (at : ℕ) where
  pub head-none : length s ≤ at → Err Cut ≡ head_answer (length s) (heading (drop at s))
  unfolding heading
  head-none h = rw (drop_of_length-le s h)

  pub head_first : at < length s → drop at s ≡ get_or s at 0 ∷ drop (at + 1) s
  head_first h = rw (add-one at, drop-cons s at 0)

  module _ (b : ℕ) where
    pub head-no : (k : Refusal) → argument (b % 32) (drop at s) ≡ refused k
        → Err k ≡ head_answer (length s) (heading (b ∷ drop at s))
    unfolding heading
    head-no k e = rw e

    pub head-yes : (v p : ℕ) (f : Bool) → p ≤ length s → argument (b % 32) (drop at s) ≡ got v (drop p s) → f ≡ is_short (b / 32) (b % 32) v
        → Ok (record { major = b / 32; info = b % 32; argument = v; short = f; next = p })
        ≡ head_answer (length s) (heading (b ∷ drop at s))
    unfolding heading
    head-yes v p f i e w =
        let q : p ≡ length s - length (drop p s) = omega (arith, length-drop p s) in
        rw (e, w)
        (ap (λ (x : ℕ). Ok (record { major = b / 32; info = b % 32; argument = v; short = is_short (b / 32) (b % 32) v; next = x })) q)
