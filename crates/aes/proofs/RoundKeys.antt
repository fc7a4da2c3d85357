-- The key expansion: one round key from the one before, word by word, and the array of them as far as it is made.
-- Assumes nothing.
use mathlib.Core.Path.{◌≡◌, refl, sym, ◌∙◌, ap}
use mathlib.Core.List.{List, [], ◌∷◌, ◌++◌}
use Prim.Native.Nat.{ℕ, suc, ◌+◌, ◌<◌, ◌≤◌}
use native.Mathlib.Numerals.{add-one}
use native.Mathlib.Omega.{arith}
use lib.ListN.{length, take, set, get_or, length-set}
use lib.Seq.{take-suc-set, take_all, get_or-take}
use Rattle.lemmas.specs.lists.Xor.{◌⊕◌}
use Rattle.lemmas.specs.lists.Table.{table}
use Rattle.aes.specs.Field.{sub_byte, xtime}
use Rattle.aes.specs.Cipher.{next_key, round_keys, rcon}
use Rattle.aes.specs.Words.{bytes_of, bytes_from}
use Rattle.aes.proofs.Words.{add-bytes, joined}

-- the next round key from the words p to s of k, the substituted word u and the constant's word v
pub next-key-bytes : (rc : ℕ) (k : List ℕ) (p q r s u v : ℕ)
    → bytes_of p ≡ bytes_from k 0 → bytes_of q ≡ bytes_from k 4 → bytes_of r ≡ bytes_from k 8 → bytes_of s ≡ bytes_from k 12
    → bytes_of u ≡ sub_byte (get_or k 13 0) ∷ sub_byte (get_or k 14 0) ∷ sub_byte (get_or k 15 0) ∷ sub_byte (get_or k 12 0) ∷ []
    → bytes_of v ≡ rc ∷ 0 ∷ 0 ∷ 0 ∷ []
    → (let a = p ⊕ (u ⊕ v) in bytes_of a ++ bytes_of (q ⊕ a) ++ bytes_of (r ⊕ (q ⊕ a)) ++ bytes_of (s ⊕ (r ⊕ (q ⊕ a)))) ≡ next_key rc k
unfolding next_key table
next-key-bytes rc k p q r s u v ep eq er es eu ev =
    let a = p ⊕ (u ⊕ v) in
    let ea = add-bytes p (u ⊕ v) ep (add-bytes u v eu ev) in
    let eb = add-bytes q a eq ea in
    let ec = add-bytes r (q ⊕ a) er eb in
    joined ea eb ec (add-bytes s (r ⊕ (q ⊕ a)) es ec)

-- the round keys 0 to n stand in ks, and rc is the constant for the next
pub record Expanding (key : List ℕ) (ks : List (List ℕ)) (rc n : ℕ) : Type 0 where
  pub low : n ≤ 10
  pub long : length ks ≡ 11
  pub constant : rc ≡ rcon n
  pub so_far : take (n + 1) ks ≡ round_keys n key

pub expand-begin : (key : List ℕ) (ks : List (List ℕ)) → length ks ≡ 11 → take 1 ks ≡ key ∷ [] → Expanding key ks 1 0
unfolding round_keys rcon
expand-begin key ks l e = record { low = omega arith; long = l; constant = refl; so_far = e }

more : (key : List ℕ) (ks : List (List ℕ)) (n : ℕ) (v : List ℕ) → n + 1 < length ks
    → take (n + 1) ks ≡ round_keys n key → v ≡ next_key (rcon n) (get_or ks n [])
    → take (n + 1 + 1) (set ks (n + 1) v) ≡ round_keys (n + 1) key
unfolding round_keys
more key ks n v h e q =
    let last : get_or ks n [] ≡ get_or (round_keys n key) n []
    = sym (get_or-take (n + 1) ks n [] (omega arith)) ∙ ap (λ (l : List (List ℕ)). get_or l n []) e in
    let front : take (suc (n + 1)) (set ks (n + 1) v) ≡ take (n + 1) ks ++ (v ∷ []) = take-suc-set ks (n + 1) v h in
    rw (add-one (n + 1), front, e, q, last, add-one n)

pub expand-step : {key : List ℕ} {ks : List (List ℕ)} {rc n : ℕ} {v : List ℕ} {rc' : ℕ}
    → Expanding key ks rc n → n < 10 → v ≡ next_key rc (get_or ks n []) → rc' ≡ xtime rc → Expanding key (set ks (n + 1) v) rc' (n + 1)
unfolding rcon
expand-step {key} {ks} {rc} {n} {v} {rc'} s h q r =
    record {
      low = omega arith;
      long = length-set ks (n + 1) v ∙ s.long;
      constant = r ∙ ap xtime s.constant ∙ ap rcon (sym (add-one n));
      so_far = more key ks n v (omega arith) s.so_far (q ∙ ap (λ (c : ℕ). next_key c (get_or ks n [])) s.constant);
    }

pub expanded : {key : List ℕ} {ks : List (List ℕ)} {rc n : ℕ} → Expanding key ks rc n → 10 ≤ n → ks ≡ round_keys 10 key
expanded {key} {ks} {rc} {n} s h =
    let e : n ≡ 10 = omega arith in
    sym (take_all (n + 1) ks (omega arith)) ∙ s.so_far ∙ ap (λ (m : ℕ). round_keys m key) e
