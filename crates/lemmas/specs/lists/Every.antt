-- Lemmas: nothing here has to be believed.
-- A rule of a list at all of its entries follows from one test that is computed at each, one after the other.
use Rattle.std.specs.Prelude.{◌≡◌, Bool, true, false, ◌&&◌, List, [], ◌∷◌, ℕ, zero, suc, ◌+◌, ◌<◌, T, eqb, length, get_or}
use Rattle.std.proofs.Common.{◌∙◌, subst, sym, add-zero, zero-add, add-suc, suc-add, le_of_suc-le-suc, not-suc-le-zero, eq-or-lt_of_le, ⊎_elim, eqb→eq}

pub T-left : (a b : Bool) → T (a && b) → T a
T-left true b t = tt
T-left false b t = t

pub T-right : (a b : Bool) → T (a && b) → T b
T-right true b t = t
T-right false b t = absurd t

-- the test f passes at each entry of the list and its place, counted from i
abbrev pub every : (ℕ → ℕ → Bool) → ℕ → List ℕ → Bool
every f i [] = true
every f i (x ∷ xs) = f i x && every f (suc i) xs

from : (f : ℕ → ℕ → Bool) (xs : List ℕ) (i : ℕ) → T (every f i xs) → (k : ℕ) → k < length xs → T (f (i + k) (get_or xs k 0))
from f [] i t k h = absurd (not-suc-le-zero h)
from f (x ∷ xs) i t zero h = subst (λ (m : ℕ). T (f m x)) (sym (add-zero i)) (T-left (f i x) (every f (suc i) xs) t)
from f (x ∷ xs) i t (suc k) h =
    subst (λ (m : ℕ). T (f m (get_or xs k 0))) (suc-add i k ∙ sym (add-suc i k))
    (from f xs (suc i) (T-right (f i x) (every f (suc i) xs) t) k (le_of_suc-le-suc h))

pub every-at : (f : ℕ → ℕ → Bool) (xs : List ℕ) → T (every f 0 xs) → (k : ℕ) → k < length xs → T (f k (get_or xs k 0))
every-at f xs t k h = subst (λ (m : ℕ). T (f m (get_or xs k 0))) (zero-add k) (from f xs 0 t k h)

-- the test p passes at each number below n
abbrev pub below : (ℕ → Bool) → ℕ → Bool
below p zero = true
below p (suc n) = p n && below p n

pub each_below : (p : ℕ → Bool) (n : ℕ) → T (below p n) → (i : ℕ) → i < n → T (p i)
each_below p zero t i h = absurd (not-suc-le-zero h)
each_below p (suc n) t i h =
    ⊎_elim (λ (e : i ≡ n). subst (λ (m : ℕ). T (p m)) (sym e) (T-left (p n) (below p n) t))
    (λ (k : i < n). each_below p n (T-right (p n) (below p n) t) i k)
    (eq-or-lt_of_le (le_of_suc-le-suc h))

-- an equation of two expressions in a number below n, by computing both at each
pub same-below : (f g : ℕ → ℕ) (n : ℕ) → T (below (λ i. eqb (f i) (g i)) n) → (i : ℕ) → i < n → f i ≡ g i
same-below f g n t i h = eqb→eq (f i) (g i) (each_below (λ i. eqb (f i) (g i)) n t i h)
