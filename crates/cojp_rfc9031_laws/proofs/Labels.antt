-- One more label at the end: it is among the labels, and the others are as before.
use Prim.Native.Nat.{ℕ, ◌≤◌}
use native.Mathlib.Omega.{arith}
use mathlib.Core.Path.{◌≡◌, refl, sym, ap, subst, ◌∙◌}
use mathlib.Core.Bool.{Bool, true, false, cond, ◌||◌}
use mathlib.Core.List.{List, [], ◌∷◌, ◌++◌}
use lib.Dec.{eqb}
use borrow.Author.Tests.{eqb-true}
use Rattle.cojp.specs.declared.walk.LabelStatus.{LabelStatus}
use Rattle.cojp.specs.declared.walk.LabelStatus.TheVariants.{Unknown, First, Repeated}
use Rattle.cojp_rfc9031_laws.specs.Labels.{is_in, Known, labels_of}

pub labels-snoc : (ks : List Known) (k : Known) → labels_of (ks ++ (k ∷ [])) ≡ labels_of ks ++ (k.label ∷ [])
labels-snoc [] k = refl
labels-snoc (j ∷ ks) k = ap (λ (l : List ℕ). j.label ∷ l) (labels-snoc ks k)

pub or_swap : (a b c : Bool) → (a || (b || c)) ≡ (b || (a || c))
or_swap true true c = refl
or_swap true false c = refl
or_swap false true c = refl
or_swap false false c = refl

pub in-snoc : (n : ℕ) (ks : List Known) (k : Known) → is_in n (labels_of (ks ++ (k ∷ []))) ≡ (eqb n k.label || is_in n (labels_of ks))
in-snoc n [] k = refl
in-snoc n (j ∷ ks) k =
    ap (λ (b : Bool). (eqb n j.label || b)) (in-snoc n ks k) ∙ or_swap (eqb n j.label) (eqb n k.label) (is_in n (labels_of ks))

-- ---- where a known label stands: it came before or it did not
abbrev pub stood : Bool → LabelStatus
stood true = Repeated
stood false = First

abbrev pub stands_by : List ℕ → List ℕ → ℕ → LabelStatus
stands_by known seen n = cond (is_in n known) (stood (is_in n seen)) Unknown

-- how often a label that comes once came
abbrev pub flag : Bool → ℕ
flag b = cond b 1 0

pub flag-most : (b : Bool) → flag b ≤ 1
flag-most true = omega arith
flag-most false = omega arith

-- after one label more another stands as before, and itself came before
module _ (n : ℕ) (ks : List Known) (k : Known) where
  pub stays : (s : LabelStatus) → eqb n k.label ≡ false → s ≡ stood (is_in n (labels_of ks))
      → s ≡ stood (is_in n (labels_of (ks ++ (k ∷ []))))
  stays s e h = h ∙ ap stood (sym (in-snoc n ks k ∙ ap (λ (b : Bool). (b || is_in n (labels_of ks))) e))

  pub comes : (s : LabelStatus) → eqb n k.label ≡ true → s ≡ Repeated → s ≡ stood (is_in n (labels_of (ks ++ (k ∷ []))))
  comes s e h = h ∙ ap stood (sym (in-snoc n ks k ∙ ap (λ (b : Bool). (b || is_in n (labels_of ks))) e))

-- ---- what holds of the labels of an object, and of all others, holds of each
pub at_label : (P : ℕ → Type 0) (n k : ℕ) → P k → (eqb n k ≡ false → P n) → P n
at_label P n k p others = by (eqb n k) refl
  where
    by : (b : Bool) → eqb n k ≡ b → P n
    by true e = subst P (sym (eqb-true n k e)) p
    by false e = others e

pub each_label : (P : ℕ → Type 0) (n : ℕ) → P 2 → P 3 → P 4 → P 6 → P 7 →
    (eqb n 2 ≡ false → eqb n 3 ≡ false → eqb n 4 ≡ false → eqb n 6 ≡ false → eqb n 7 ≡ false → P n) → P n
each_label P n a b c d e others =
    at_label P n 2 a (λ x. at_label P n 3 b (λ y. at_label P n 4 c (λ z. at_label P n 6 d (λ u. at_label P n 7 e (λ w. others x y z u w)))))
