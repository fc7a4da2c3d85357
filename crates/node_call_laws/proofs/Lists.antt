-- Lists of values that fit, element by element.
use Prim.Native.Nat.{ℕ, zero, suc, ◌+◌, ◌-◌, ◌^◌, ◌<◌, ◌≤◌}
use mathlib.Core.Path.{◌≡◌, refl, ap}
use mathlib.Core.Bool.{Bool, true, false, cond, not, ◌&&◌}
use mathlib.Core.List.{List, [], ◌∷◌, ◌++◌, map}
use mathlib.Core.Option.{Option, none, some}
use native.Mathlib.Omega.{arith}
use borrow.Author.Tests.{eqb-false, not-true}
use lib.Dec.{eqb}
use lib.ListN.{length, take, set, get_or, replicate, length-append, length-map, length-replicate, length-take}
use Rattle.lemmas.specs.logic.Tests.{both_right}
use Rattle.image.specs.Part as part
use Rattle.image.specs.Part.{Part, number, Fits}
use Rattle.key_image.specs.Key.{key_part}
use Rattle.link_key.specs.Key.{covers}
use Rattle.link_key.specs.declared.Key.{Key}
use Rattle.link_key_counters.specs.Counters.{Slot, slot, slots_from, serves, counter_in}
use Rattle.link_key.specs.set.Lists.{first_of}

-- what holds in both cases
pub by_cond : {A : Type 0} (P : A → Type 0) (b : Bool) {x y : A} → (b ≡ true → P x) → (b ≡ false → P y) → P (cond b x y)
by_cond P true f g = f refl
by_cond P false f g = g refl

module _ {A : Type 0} (p : Part A) where
  pub fits-length : (n : ℕ) (xs : List A) → Fits p n xs → length xs ≡ n
  fits-length n xs part.none = refl
  fits-length n xs (part.more {n = k} {a = a} {xs = ys} f g) = ap suc (fits-length k ys g)

  pub fits-set : (n : ℕ) (xs : List A) (i : ℕ) (x : A) → p.Fit x → Fits p n xs → Fits p n (set xs i x)
  fits-set n xs i x h part.none = part.none
  fits-set n xs zero x h (part.more f g) = part.more h g
  fits-set n xs (suc i) x h (part.more {n = k} {a = a} {xs = ys} f g) = part.more f (fits-set k ys i x h g)

  pub fits_each : (n : ℕ) (xs : List A) (d : A) → p.Fit d → Fits p n xs → (i : ℕ) → p.Fit (get_or xs i d)
  fits_each n xs d h part.none i = h
  fits_each n xs d h (part.more f g) zero = f
  fits_each n xs d h (part.more {n = k} {a = a} {xs = ys} f g) (suc i) = fits_each k ys d h g i

  pub fits-made : (n : ℕ) (xs : List A) (d : A) → length xs ≡ n → ((i : ℕ) → p.Fit (get_or xs i d)) → Fits p n xs
  fits-made zero [] d e h = part.none
  fits-made zero (x ∷ xs) d e h = absurd (omega arith)
  fits-made (suc n) [] d e h = absurd (omega arith)
  fits-made (suc n) (x ∷ xs) d e h = part.more (h 0) (fits-made n xs d (omega arith) (λ i. h (suc i)))

  pub fits-replicate : (n : ℕ) (x : A) → p.Fit x → Fits p n (replicate n x)
  fits-replicate zero x h = part.none
  fits-replicate (suc n) x h = part.more h (fits-replicate n x h)

-- ---- each element, however many there are
module _ {A : Type 0} where
  pub data Each (p : Part A) : List A → Type 0 where
    nobody : Each p []
    one_more : {x : A} {xs : List A} → p.Fit x → Each p xs → Each p (x ∷ xs)

  pub each-taken : (p : Part A) (count n : ℕ) (xs : List A) → Fits p n xs → Each p (take count xs)
  each-taken p zero n xs f = nobody
  each-taken p (suc count) n xs part.none = nobody
  each-taken p (suc count) n xs (part.more {n = k} {a = a} {xs = ys} f g) = one_more f (each-taken p count k ys g)

  -- one that is looked for
  abbrev pub Found : (A → Type 0) → Option A → Type 0
  Found P none = ◌≡◌ {A = ℕ} 0 0
  Found P (some x) = P x

  pub first_fits : (p : Part A) (test : A → Bool) (xs : List A) → Each p xs → Found p.Fit (first_of test xs)
  first_fits p test xs nobody = refl
  first_fits p test xs (one_more {x = x} {xs = ys} f e) = by_cond (Found p.Fit) (test x) (λ _. f) (λ _. first_fits p test ys e)

-- ---- numbers under a limit
abbrev pub Under : ℕ → List ℕ → Type 0
Under most cs = (i : ℕ) → get_or cs i 0 < most

pub under-append : (most : ℕ) (xs ys : List ℕ) → Under most xs → Under most ys → Under most (xs ++ ys)
under-append most [] ys f g i = g i
under-append most (x ∷ xs) ys f g zero = f 0
under-append most (x ∷ xs) ys f g (suc i) = under-append most xs ys (λ j. f (suc j)) g i

pub under-zeros : (most n : ℕ) → 0 < most → Under most (replicate n 0)
under-zeros most zero h i = h
under-zeros most (suc n) h zero = h
under-zeros most (suc n) h (suc i) = under-zeros most n h i

-- ---- counters of four bytes
abbrev pub Counters : List ℕ → Type 0
Counters cs = Under (256 ^ 4) cs

pub fits_under : (cs : List ℕ) → Fits (number 4) 8 cs → Counters cs
fits_under cs f = fits_each (number 4) 8 cs 0 (omega arith) f

under-map : (f : Key → ℕ) → ((k : Key) → f k < 256 ^ 4) → (ks : List Key) → Counters (map f ks)
under-map f h [] i = omega arith
under-map f h (k ∷ ks) zero = h k
under-map f h (k ∷ ks) (suc i) = under-map f h ks i

-- as many as there are keys, and zeros up to eight
pub kept-fit : (f : Key → ℕ) → ((k : Key) → f k < 256 ^ 4) → (count : ℕ) (keys : List Key) → length keys ≡ 8
    → Fits (number 4) 8 (map f (take count keys) ++ replicate (8 - length (take count keys)) 0)
kept-fit f h count keys e =
    let ks = take count keys in
    let few : length ks ≤ 8 = omega (arith, length-take count keys) in
    fits-made (number 4) 8 (map f ks ++ replicate (8 - length ks) 0) 0
    (omega (arith, length-append (map f ks) (replicate (8 - length ks) 0), length-map ks f, length-replicate {A = ℕ} (8 - length ks) 0))
    (under-append (256 ^ 4) (map f ks) (replicate (8 - length ks) 0) (under-map f h ks)
    (under-zeros (256 ^ 4) (8 - length ks) (omega arith)))

-- the counter of a key that is looked for
pub kept_under : (cs : List ℕ) → Counters cs → (test : Slot → Bool) (place : ℕ) (ks : List Key)
    → counter_in (first_of test (slots_from place cs ks)) < 256 ^ 4
kept_under cs u test place [] = omega arith
kept_under cs u test place (k ∷ ks) =
    by_cond (λ (o : Option Slot). counter_in o < 256 ^ 4) (test (slot place k (get_or cs place 0))) (λ e. u place)
    (λ e. kept_under cs u test (place + 1) ks)

-- and the key itself, with it
abbrev pub SlotFits : Slot → Type 0
SlotFits x = key_part.Fit x.key × (x.counter < 256 ^ 4)

pub slot-fits : (cs : List ℕ) → Counters cs → (test : Slot → Bool) (place : ℕ) (ks : List Key) → Each key_part ks
    → Found SlotFits (first_of test (slots_from place cs ks))
slot-fits cs u test place ks nobody = refl
slot-fits cs u test place ks (one_more {x = k} {xs = ls} f e) =
    by_cond (Found SlotFits) (test (slot place k (get_or cs place 0))) (λ _. (f, u place)) (λ _. slot-fits cs u test (place + 1) ls e)

-- a key that serves is not used up: its counter can rise
abbrev pub CanRise : Option Slot → Type 0
CanRise o = Found (λ (x : Slot). x.counter + 1 < 256 ^ 4) o

rises : (k : Key) (type n : ℕ) → n < 256 ^ 4 → (covers k type && not (eqb n 4294967295)) ≡ true → n + 1 < 256 ^ 4
rises k type n h e =
    let f : ¬ (n ≡ 4294967295) =
    eqb-false n 4294967295 (not-true (eqb n 4294967295) (both_right (covers k type) (not (eqb n 4294967295)) e)) in
    omega arith

pub first-rises : (cs : List ℕ) → Counters cs → (type place : ℕ) (ks : List Key) → CanRise (first_of (serves type) (slots_from place cs ks))
first-rises cs u type place [] = refl
first-rises cs u type place (k ∷ ks) =
    by_cond CanRise (serves type (slot place k (get_or cs place 0))) (λ e. rises k type (get_or cs place 0) (u place) e)
    (λ e. first-rises cs u type (place + 1) ks)
