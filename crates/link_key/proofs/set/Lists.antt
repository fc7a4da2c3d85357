-- Laws of the questions about a list: what an answer says of the members, and what the members say of the answer.
use Prim.Native.Nat.{ℕ}
use native.Mathlib.Omega.{arith}
use mathlib.Core.Path.{◌≡◌, refl, ap, sym, ◌∙◌}
use mathlib.Core.Bool.{Bool, true, false, cond, ◌&&◌, ◌||◌, or-true, and_assoc, or_assoc, false≢true}
use mathlib.Core.List.{List, [], ◌∷◌, ◌++◌, Memᴰ}
use mathlib.Core.Option.{Option, none, some}
use Rattle.lemmas.specs.logic.Tests.{both_left, both_right, neither_left, neither_right}
use Rattle.link_key.specs.set.Lists.{any_of, all_of, first_of}

module _ {A : Type 0} (test : A → Bool) where
  pub any-one : {x : A} {xs : List A} → Memᴰ x xs → test x ≡ true → any_of test xs ≡ true
  any-one (Memᴰ.head p) e = rw (sym (ap test p) ∙ e)
  any-one (Memᴰ.tail {x = y} m) e = rw (any-one m e, or-true (test y))

  pub any_none : {x : A} {xs : List A} → Memᴰ x xs → any_of test xs ≡ false → test x ≡ false
  any_none (Memᴰ.head {x = y} {xs = ys} p) e = ap test p ∙ neither_left (test y) (any_of test ys) e
  any_none (Memᴰ.tail {x = y} {xs = ys} m) e = any_none m (neither_right (test y) (any_of test ys) e)

  pub any-never : (xs : List A) → ((x : A) → Memᴰ x xs → test x ≡ false) → any_of test xs ≡ false
  any-never [] h = refl
  any-never (x ∷ xs) h = rw (h x (Memᴰ.head refl), any-never xs (λ y m. h y (Memᴰ.tail m)))

  pub all-each : {x : A} {xs : List A} → Memᴰ x xs → all_of test xs ≡ true → test x ≡ true
  all-each (Memᴰ.head {x = y} {xs = ys} p) e = ap test p ∙ both_left (test y) (all_of test ys) e
  all-each (Memᴰ.tail {x = y} {xs = ys} m) e = all-each m (both_right (test y) (all_of test ys) e)

  -- what the first that passes is: a member that passes
  first_step :
      (b : Bool) (x y : A) (ys : List A) → test y ≡ b → cond b (some y) (first_of test ys) ≡ some x →
      (first_of test ys ≡ some x → Memᴰ x ys × (test x ≡ true)) → Memᴰ x (y ∷ ys) × (test x ≡ true)
  first_step true x y ys t e below = let p : x ≡ y = cc in (Memᴰ.head p, ap test p ∙ t)
  first_step false x y ys t e below = (Memᴰ.tail (below e).0, (below e).1)

  pub first-is : (xs : List A) (x : A) → first_of test xs ≡ some x → Memᴰ x xs × (test x ≡ true)
  first-is [] x e = let z : ◌≡◌ {A = ℕ} 0 1 = cc in absurd (omega arith)
  first-is (y ∷ ys) x e = first_step (test y) x y ys refl e (λ f. first-is ys x f)

  -- there is a first where one passes, and only there
  none-step : (b c : Bool) (y : A) (o : Option A) → cond b (some y) o ≡ none → (o ≡ none → c ≡ false) → (b || c) ≡ false
  none-step true c y o e below = cc
  none-step false c y o e below = below e

  pub first-none : (xs : List A) → first_of test xs ≡ none → any_of test xs ≡ false
  first-none [] e = refl
  first-none (y ∷ ys) e = none-step (test y) (any_of test ys) y (first_of test ys) e (λ f. first-none ys f)

  pub none_first : (xs : List A) → any_of test xs ≡ false → first_of test xs ≡ none
  none_first [] e = refl
  none_first (y ∷ ys) e =
      rw (neither_left (test y) (any_of test ys) e, none_first ys (neither_right (test y) (any_of test ys) e))

  finds-step :
      (b c : Bool) (y : A) (o : Option A) → (b || c) ≡ true → (c ≡ true → (x : A) × (o ≡ some x)) → (x : A) × (cond b (some y) o ≡ some x)
  finds-step true c y o e below = (y, refl)
  finds-step false c y o e below = below e

  pub first_finds : (xs : List A) → any_of test xs ≡ true → (x : A) × (first_of test xs ≡ some x)
  first_finds [] e = absurd (false≢true e)
  first_finds (y ∷ ys) e = finds-step (test y) (any_of test ys) y (first_of test ys) e (λ f. first_finds ys f)

  -- a list, and one more element
  pub any_append : (xs ys : List A) → any_of test (xs ++ ys) ≡ (any_of test xs || any_of test ys)
  any_append [] ys = refl
  any_append (x ∷ xs) ys = rw (any_append xs ys, or_assoc (test x) (any_of test xs) (any_of test ys))

  pub all_append : (xs ys : List A) → all_of test (xs ++ ys) ≡ (all_of test xs && all_of test ys)
  all_append [] ys = refl
  all_append (x ∷ xs) ys = rw (all_append xs ys, and_assoc (test x) (all_of test xs) (all_of test ys))
