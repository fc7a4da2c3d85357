-- Lemmas: nothing here has to be believed.
-- A field after another stands as many bytes further on as the first has: so fields are read, judged and written one after the other.
use Rattle.std.specs.Prelude.{ℕ, ◌+◌, Bool, true, false, ◌&&◌, List, ◌++◌, ◌≡◌, drop, get_or}
use Rattle.std.proofs.Math.Bool.{and_assoc}
use Rattle.std.proofs.Common.{append_assoc, ap, ap₂, sym, ◌∙◌, arith, drop-drop, get_or-drop}
use Rattle.image.specs.Fields.{and-good}
use Rattle.image.specs.Part.{Part, both}

pub first-at : (s : List ℕ) (at : ℕ) → get_or (drop at s) 0 0 ≡ get_or s at 0
first-at s at = let e : at + 0 ≡ at = omega arith in get_or-drop at s 0 0 ∙ ap (λ (n : ℕ). get_or s n 0) e

-- p stands at a place, and q after it at k
module _ {A B : Type 0} (p : Part A) (q : Part B) (s : List ℕ) (at k : ℕ) (e : k ≡ at + p.size) where
  further : drop k s ≡ drop p.size (drop at s)
  further = ap (λ (n : ℕ). drop n s) e ∙ sym (drop-drop p.size at s)

  pub next-got : {a : A} {b : B} → a ≡ p.get (drop at s) → b ≡ q.get (drop k s) → (a, b) ≡ (both p q).get (drop at s)
  next-got f g = ap₂ (λ (x : A) (y : B). (x, y)) f (g ∙ ap q.get further)

  -- the second is judged where the first is good
  pub next-good : {x y : Bool} → x ≡ p.good (drop at s) → x ≡ true → y ≡ q.good (drop k s) → y ≡ (both p q).good (drop at s)
  next-good {x} {y} f t g =
      ap (λ (b : Bool). (b && y)) (sym t ∙ f) ∙ ap (λ (b : Bool). (p.good (drop at s) && b)) (g ∙ ap q.good further)

  pub not_good : {x : Bool} → x ≡ p.good (drop at s) → x ≡ false → false ≡ (both p q).good (drop at s)
  not_good {x} f t = ap (λ (b : Bool). (b && q.good (drop p.size (drop at s)))) (sym t ∙ f)

pub eight-fields : (h a b c d e f g i : List ℕ)
    → (h ++ (((a ++ b) ++ c) ++ d)) ++ (((e ++ f) ++ g) ++ i) ≡ h ++ (a ++ (b ++ (c ++ (d ++ (e ++ (f ++ (g ++ i)))))))
eight-fields h a b c d e f g i = simp append_assoc

-- ---- judging
pub held-good : {x b : Bool} → x ≡ b → x ≡ (b && true)
held-good {x} {b} e = e ∙ and-good b

-- a and b are asked together, and c where both hold
module _ (a b c : Bool) {h : Bool} (e : h ≡ (a && b)) where
  pub then-good : {y : Bool} → h ≡ true → y ≡ c → y ≡ (a && (b && c))
  then-good t f = f ∙ ap (λ (x : Bool). (x && c)) (sym t ∙ e) ∙ and_assoc a b c

  pub then-not : h ≡ false → false ≡ (a && (b && c))
  then-not t = ap (λ (x : Bool). (x && c)) (sym t ∙ e) ∙ and_assoc a b c

-- two parts are judged together, and then what stands after them
module _ {A B C : Type 0} (p : Part A) (q : Part B) (r : Part C) (s : List ℕ) (at k : ℕ) (e : k ≡ at + (p.size + q.size)) where
  beyond : drop k s ≡ drop q.size (drop p.size (drop at s))
  beyond =
      ap (λ (n : ℕ). drop n s) e
      ∙ sym (drop-drop (p.size + q.size) at s)
      ∙ sym (drop-drop q.size p.size (drop at s))

  pub pair-good : {x y : Bool} → x ≡ (both p q).good (drop at s) → x ≡ true → y ≡ r.good (drop k s)
      → y ≡ (both p (both q r)).good (drop at s)
  pair-good f t g = then-good (p.good (drop at s)) (q.good (drop p.size (drop at s))) _ f t (g ∙ ap r.good beyond)

  pub pair-not : {x : Bool} → x ≡ (both p q).good (drop at s) → x ≡ false → false ≡ (both p (both q r)).good (drop at s)
  pair-not f t =
      then-not (p.good (drop at s)) (q.good (drop p.size (drop at s))) (r.good (drop q.size (drop p.size (drop at s)))) f t
