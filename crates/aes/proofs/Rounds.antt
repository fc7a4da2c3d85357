-- The rounds over a table: each takes the state of `rounds_by` one further, and that of FIPS 197's `rounds` if the table is right.
-- Assumes nothing.
use mathlib.Core.Path.{◌≡◌, refl, ◌∙◌, ap}
use mathlib.Core.List.{List, []}
use Prim.Native.Nat.{ℕ, zero, suc, ◌+◌, ◌<◌, ◌≤◌}
use native.Mathlib.Numerals.{add-one}
use native.Mathlib.Omega.{arith}
use lib.ListN.{get_or, take, drop}
use lib.Seq.{get_or-take, get_or-drop}
use Rattle.aes.specs.Bounds.{Bytes}
use Rattle.aes.specs.Cipher.{rounds, cipher, add_round_key}
use Rattle.aes.specs.Words.{RoundTable, spread_by, plain_by, columns_by, rounds_by, cipher_by}
use Rattle.aes.proofs.Bounds.{added-bytes, mixed-bytes}
use Rattle.aes.proofs.Words.{round-right, finish-right}

-- x is the state after n of the nine rounds that begin at s
pub record Rounding (t : List ℕ) (ks : List (List ℕ)) (s x : List ℕ) (n : ℕ) : Type 0 where
  pub low : n ≤ 9
  pub so_far : x ≡ rounds_by t n ks s
  pub right : RoundTable t → x ≡ rounds n ks s

pub round-begin : {t : List ℕ} {ks : List (List ℕ)} {s : List ℕ} → Rounding t ks s s 0
unfolding rounds_by rounds
round-begin = record { low = omega arith; so_far = refl; right = λ holds. refl }

-- the round keys that the loop goes over are those after the first
pub round-key : (ks : List (List ℕ)) (n : ℕ) → n < 9 → get_or (take 9 (drop 1 ks)) n [] ≡ get_or ks (n + 1) []
round-key ks n h = get_or-take 9 (drop 1 ks) n [] h ∙ get_or-drop 1 ks n [] ∙ ap (λ (i : ℕ). get_or ks i []) (omega arith)

pub round-step : {t : List ℕ} {ks : List (List ℕ)} {s x y : List ℕ} {n : ℕ} → Rounding t ks s x n → n < 9 → Bytes x
    → y ≡ add_round_key (columns_by (spread_by t) x) (get_or ks (n + 1) []) → Rounding t ks s y (n + 1)
unfolding rounds_by rounds
round-step {t} {ks} {s} {x} {y} {n} st h f e = record {
  low = omega arith;
  so_far = e ∙ rw (st.so_far, add-one n);
  right = λ holds. e ∙ round-right holds x (get_or ks (n + 1) []) f ∙ rw (st.right holds, add-one n);
}

module _ {t : List ℕ} {ks : List (List ℕ)} (block : List ℕ) {s x y z : List ℕ} {n : ℕ} (es : s ≡ add_round_key block (get_or ks 0 []))
    (st : Rounding t ks s x n) (h : 9 ≤ n) (e : y ≡ add_round_key (columns_by (plain_by t) x) (get_or ks 10 [])) (f : z ≡ y) where
  pub round-all : z ≡ cipher_by t ks block
  unfolding cipher_by
  round-all = let q : n ≡ 9 = omega (arith, st.low) in f ∙ e ∙ rw (st.so_far, q, es)

  pub round-standard : Bytes x → RoundTable t → z ≡ cipher ks block
  unfolding cipher
  round-standard b holds =
      let q : n ≡ 9 = omega (arith, st.low) in
      f ∙ e ∙ finish-right holds x (get_or ks 10 []) b ∙ rw (st.right holds, q, es)

-- ---- over bytes, whatever holds the state: each round keeps it of bytes
module _ (t : List ℕ) (ks : List (List ℕ)) (holds : RoundTable t) (keys : (n : ℕ) → Bytes (get_or ks n [])) (s : List ℕ) (f : Bytes s) where
  rounds-bytes : (n : ℕ) → Bytes (rounds n ks s)
  unfolding rounds
  rounds-bytes zero = f
  rounds-bytes (suc n) = mixed-bytes (rounds n ks s) (get_or ks (suc n) []) (keys (suc n))

  rounds-right : (n : ℕ) → rounds_by t n ks s ≡ rounds n ks s
  unfolding rounds_by rounds
  rounds-right zero = refl
  rounds-right (suc n) =
      ap (λ (x : List ℕ). add_round_key (columns_by (spread_by t) x) (get_or ks (suc n) [])) (rounds-right n)
      ∙ round-right holds (rounds n ks s) (get_or ks (suc n) []) (rounds-bytes n)

  last-right : add_round_key (columns_by (plain_by t) (rounds_by t 9 ks s)) (get_or ks 10 [])
      ≡ add_round_key (columns_by (plain_by t) (rounds 9 ks s)) (get_or ks 10 [])
  last-right = ap (λ (x : List ℕ). add_round_key (columns_by (plain_by t) x) (get_or ks 10 [])) (rounds-right 9)

  pub end-bytes : Bytes (rounds 9 ks s)
  end-bytes = rounds-bytes 9

pub by-table : (t : List ℕ) (ks : List (List ℕ)) (block : List ℕ) → RoundTable t → ((n : ℕ) → Bytes (get_or ks n [])) → Bytes block
    → cipher_by t ks block ≡ cipher ks block
unfolding cipher_by cipher
by-table t ks block holds keys b =
    let s = add_round_key block (get_or ks 0 []) in
    let f = added-bytes block (get_or ks 0 []) b (keys 0) in
    last-right t ks holds keys s f ∙ finish-right holds (rounds 9 ks s) (get_or ks 10 []) (end-bytes t ks holds keys s f)
