-- Lemmas: nothing here has to be believed.
-- The length and the entries of a table, by induction on how many there are.
use Rattle.std.specs.Prelude.{◌≡◌, refl, List, [], ◌∷◌, ◌++◌, ℕ, zero, suc, ◌<◌, length, get_or}
use Rattle.std.proofs.Common.{sym, ◌∙◌, ap, ap₂, subst, ⊎_elim, not-suc-le-zero, le_of_suc-le-suc, eq-or-lt_of_le, add-one, arith, length-append, ext_get_or}
use Rattle.std.proofs.Math.ListN.{get_or-append}
use Rattle.std.proofs.lemmas.List.{get_or_at}
use Rattle.lemmas.specs.lists.Table.{table}

pub length-table : {A : Type 0} (n : ℕ) (f : ℕ → A) → length (table n f) ≡ n
unfolding table
length-table zero f = refl
length-table (suc n) f = length-append (table n f) (f n ∷ []) ∙ rw (length-table n f, add-one n)

pub get_d-table : {A : Type 0} (n : ℕ) (f : ℕ → A) (d : A) (i : ℕ) → i < n → get_or (table n f) i d ≡ f i
unfolding table
get_d-table zero f d i h = absurd (not-suc-le-zero h)
get_d-table (suc n) f d i h =
    ⊎_elim
    (λ (e : i ≡ n). get_or_at (table n f) (f n) [] d i (length-table n f ∙ sym e) ∙ ap f (sym e))
    (λ (k : i < n). get_or-append (table n f) (f n ∷ []) d i (subst (λ (m : ℕ). i < m) (sym (length-table n f)) k)
    ∙ get_d-table n f d i k)
    (eq-or-lt_of_le (le_of_suc-le-suc h))

-- a list is the table of its entries
pub table-self : {A : Type 0} (l : List A) (d : A) (n : ℕ) (f : ℕ → A) → length l ≡ n → ((i : ℕ) → i < n → f i ≡ get_or l i d) → table n f ≡ l
table-self l d n f e h =
    ext_get_or d (table n f) l (length-table n f ∙ sym e)
    (λ i k. let k' : i < n = subst (λ (m : ℕ). i < m) (length-table n f) k in get_d-table n f d i k' ∙ h i k')

-- tables of the same entries are the same
pub table-ext : (n : ℕ) (f g : ℕ → ℕ) → ((i : ℕ) → i < n → f i ≡ g i) → table n f ≡ table n g
unfolding table
table-ext zero f g h = refl
table-ext (suc n) f g h = ap₂ (λ (l : List ℕ) (x : ℕ). l ++ (x ∷ [])) (table-ext n f g (λ i k. h i (omega arith))) (h n (omega arith))
