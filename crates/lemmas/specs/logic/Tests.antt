-- Lemmas: nothing here has to be believed.
-- Tests joined by "and" and "or".
use Rattle.std.specs.Prelude.{ℕ, ◌≤◌, ◌≡◌, refl, Bool, true, false, cond, not, ◌&&◌, ◌||◌}
use Rattle.std.proofs.Common.{arith, sym, ◌∙◌}
use Rattle.std.proofs.lemmas.Bool.{not-true, not-false}

pub both_left : (a b : Bool) → (a && b) ≡ true → a ≡ true
both_left true b e = refl
both_left false b e = e

pub both_right : (a b : Bool) → (a && b) ≡ true → b ≡ true
both_right true b e = e
both_right false b e = cc

pub both_true : (a b : Bool) → (a && b) ≡ true → (a ≡ true) × (b ≡ true)
both_true a b e = (both_left a b e, both_right a b e)

pub neither_left : (a b : Bool) → (a || b) ≡ false → a ≡ false
neither_left true b e = e
neither_left false b e = refl

pub neither_right : (a b : Bool) → (a || b) ≡ false → b ≡ false
neither_right true b e = cc
neither_right false b e = e

pub never : {A : Type 0} (b : Bool) → b ≡ true → b ≡ false → A
never b p q = absurd (let z : ◌≡◌ {A = ℕ} 0 1 = cc in omega arith)

pub both : (a b : Bool) → a ≡ true → b ≡ true → (a && b) ≡ true
both a b p q = rw (p, q)

-- where the first holds, so does the second
pub then-so : (a b : Bool) → (not a || b) ≡ true → a ≡ true → b ≡ true
then-so true b e h = e
then-so false b e h = never false h refl

-- what a function's answer says of the test that it stands for
module _ {r b : Bool} (e : r ≡ b) where
  pub is_true : r ≡ true → b ≡ true
  is_true h = sym e ∙ h

  pub is_false : r ≡ false → b ≡ false
  is_false h = sym e ∙ h

  pub denied : not r ≡ true → b ≡ false
  denied h = sym e ∙ not-true r h

  pub granted : not r ≡ false → b ≡ true
  granted h = sym e ∙ not-false r h

-- the answer r of two tests in a row, where the second is asked only if the first, which stands for a, holds
module _ {p a r : Bool} where
  pub and-next : {q b : Bool} → p ≡ a → p ≡ true → q ≡ b → r ≡ q → r ≡ (a && b)
  and-next e t f g = rw (sym e ∙ t) (g ∙ f)

  pub and-stops : (b : Bool) → p ≡ a → p ≡ false → r ≡ p → r ≡ (a && b)
  and-stops b e t g = rw (sym e ∙ t) (g ∙ t)

-- the parts of four tests in a row
module _ (a b c d : Bool) (e : (a && b && c && d) ≡ true) where
  front : (a && b && c) ≡ true
  front = both_left (a && b && c) d e

  pub fourth : d ≡ true
  fourth = both_right (a && b && c) d e

  pub third : c ≡ true
  third = both_right (a && b) c front

  pub second : b ≡ true
  second = both_right a b (both_left (a && b) c front)

  pub first : a ≡ true
  first = both_left a b (both_left (a && b) c front)

pub all-four : (a b c d : Bool) → a ≡ true → b ≡ true → c ≡ true → d ≡ true → (a && b && c && d) ≡ true
all-four a b c d p q r s = rw (p, q, r, s)

-- what holds of the value in either case holds of the one that the test chooses
pub by_cond : {A : Type 0} (P : A → Type 0) (b : Bool) {x y : A} → (b ≡ true → P x) → (b ≡ false → P y) → P (cond b x y)
by_cond P true f g = f refl
by_cond P false f g = g refl

-- a test as a number
pub one-most : (b : Bool) → cond b 1 0 ≤ 1
one-most true = omega arith
one-most false = omega arith
