-- A loop over the places of a counted set asks a question of the list of its keys and counters, from a place on; the counters that a new
-- set keeps are written one after the other.
use Prim.Native.Nat.{ℕ, suc, ◌+◌, ◌≤◌, ◌<◌, ◌-◌}
use native.Mathlib.Omega.{arith}
use native.Mathlib.Numerals.{add-one}
use mathlib.Core.Path.{◌≡◌, refl, sym, ap, ◌∙◌}
use mathlib.Core.Bool.{true, false, and-false}
use mathlib.Core.List.{List, [], ◌∷◌, ◌++◌, map}
use borrow.Author.Tests.{ne_eqb, eq-eqb}
use lib.ListN.{length, drop, take, get_or, set, replicate, length-map}
use lib.Seq.{drop-cons, take-suc, set_at, append_snoc, length-take-le, take_all}
use Rattle.link_key.specs.Key.{covers, same_secret}
use Rattle.link_key.specs.set.Lists.{first_of}
use Rattle.link_key.specs.declared.Key.{Key}
use Rattle.link_key_counters.specs.Counters.{Slot, slot, slots_from, last_counter, serves, counter_in, kept_counter, kept_counters}
use Rattle.link_key_counters.specs.declared.CountedSet.{CountedSet}

-- the slots of the keys from a place on
abbrev pub rest : List Key → List ℕ → ℕ → List Slot
rest ks cs i = slots_from i cs (drop i ks)

pub turn : (ks : List Key) (cs : List ℕ) (i : ℕ) (d : Key) → i < length ks → rest ks cs i ≡ slot i (get_or ks i d) (get_or cs i 0) ∷ rest ks cs (i + 1)
turn ks cs i d h = rw (drop-cons ks i d h, add-one i)

-- ---- the counter that a key keeps, among these slots
abbrev pub asked : Key → List Slot → ℕ
asked k xs = counter_in (first_of (λ (x : Slot). same_secret x.key k) xs)

-- ---- whether a key serves
pub not-covering : (type i : ℕ) (k : Key) (c : ℕ) → covers k type ≡ false → serves type (slot i k c) ≡ false
not-covering type i k c e = rw e

pub used-up : (type i : ℕ) (k : Key) (c : ℕ) → c ≡ 4294967295 → serves type (slot i k c) ≡ false
used-up type i k c h = rw (eq-eqb c last_counter h) (and-false (covers k type))

-- ---- the counters that a new set keeps
map-append : (f : Key → ℕ) (xs ys : List Key) → map f (xs ++ ys) ≡ map f xs ++ map f ys
map-append f [] ys = refl
map-append f (x ∷ xs) ys = ap (λ (zs : List ℕ). f x ∷ zs) (map-append f xs ys)

-- those of the first i keys are written, and the others of the eight are 0
abbrev pub written : CountedSet → List Key → ℕ → List ℕ
written s ks i = map (kept_counter s) (take i ks) ++ replicate (8 - i) 0

zeros : (i : ℕ) → i < 8 → replicate {A = ℕ} (8 - i) 0 ≡ 0 ∷ replicate (8 - (i + 1)) 0
zeros i h = let e : 8 - i ≡ suc (8 - (i + 1)) = omega arith in rw e

module _ (s : CountedSet) (ks : List Key) (i : ℕ) (d : Key) (h : i < length ks) (few : length ks ≤ 8) where
  front : List ℕ
  front = map (kept_counter s) (take i ks)

  front_length : length front ≡ i
  unfolding front
  front_length = length-map (take i ks) (kept_counter s) ∙ length-take-le i ks (omega arith)

  one_more : map (kept_counter s) (take (i + 1) ks) ≡ front ++ (kept_counter s (get_or ks i d) ∷ [])
  unfolding front
  one_more = rw (add-one i, take-suc ks i d h, map-append (kept_counter s) (take i ks) (get_or ks i d ∷ []))

  pub write : (cs : List ℕ) (v : ℕ) → cs ≡ written s ks i → v ≡ kept_counter s (get_or ks i d) → set cs i v ≡ written s ks (i + 1)
  unfolding front
  write cs v e g =
      rw (e, zeros i (omega (arith, h, few)), g, one_more)
      (set_at front 0 (replicate (8 - (i + 1)) 0) (kept_counter s (get_or ks i d)) i front_length
      ∙ sym (append_snoc front (kept_counter s (get_or ks i d)) (replicate (8 - (i + 1)) 0)))

pub written_all : (s : CountedSet) (ks : List Key) (i : ℕ) → i ≡ length ks → written s ks i ≡ kept_counters s ks
written_all s ks i e = rw (e, take_all (length ks) ks (omega arith))
