-- Lemmas: nothing here has to be believed.
-- An array that a loop fills place by place: the places so far hold the table's entries.
use Rattle.std.specs.Prelude.{◌≡◌, refl, List, ℕ, ◌+◌, ◌<◌, ◌≤◌, length, take, set}
use Rattle.std.proofs.Common.{sym, ◌∙◌, ap, add-one, arith, length-set, take-suc-set, take_all}
use Rattle.lemmas.specs.lists.Table.{table}

-- the first i of the n places of t hold what `table n f` has there
pub record Filling {A : Type 0} (n : ℕ) (f : ℕ → A) (t : List A) (i : ℕ) : Type 0 where
  pub low : i ≤ n
  pub long : length t ≡ n
  pub so_far : take i t ≡ table i f

pub begin : {A : Type 0} {n : ℕ} {f : ℕ → A} {t : List A} → length t ≡ n → Filling n f t 0
unfolding table
begin h = record { low = omega arith; long = h; so_far = refl }

prefix : {A : Type 0} (f : ℕ → A) (t : List A) (i : ℕ) (v : A)
    → i < length t → take i t ≡ table i f → v ≡ f i → take (i + 1) (set t i v) ≡ table (i + 1) f
unfolding table
prefix f t i v h e q = rw (add-one, take-suc-set, e, q)

pub step : {A : Type 0} {n : ℕ} {f : ℕ → A} {t : List A} {i : ℕ} {v : A} → Filling n f t i → i < n → v ≡ f i
    → Filling n f (set t i v) (i + 1)
step {A} {n} {f} {t} {i} {v} s h q =
    record { low = omega arith; long = length-set t i v ∙ s.long; so_far = prefix f t i v (omega arith) s.so_far q }

pub all : {A : Type 0} {n : ℕ} {f : ℕ → A} {t : List A} {i : ℕ} → Filling n f t i → n ≤ i → t ≡ table n f
all {A} {n} {f} {t} {i} s h =
    let e : i ≡ n = omega arith in
    sym (take_all i t (omega arith)) ∙ s.so_far ∙ ap (λ (m : ℕ). table m f) e
