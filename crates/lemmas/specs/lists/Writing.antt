-- Lemmas: nothing here has to be believed.
-- A lent slice that a loop writes from its front: the places so far hold the table's entries, the rest is as it was.
use Rattle.std.specs.Prelude.{◌≡◌, refl, List, ◌++◌, ℕ, suc, ◌+◌, ◌<◌, ◌≤◌, length, set, get_or, drop}
use Rattle.std.proofs.Common.{sym, ◌∙◌, ap, add-one, arith, length-append, length-drop, drop-cons}
use Rattle.std.proofs.lemmas.List.{set_at}
use Rattle.std.proofs.Math.Seq.{append_snoc}
use Rattle.lemmas.specs.lists.Table.{table}
use Rattle.lemmas.specs.lists.TableLemmas.{length-table}

-- the first j places of d hold f 0 to f (j - 1), and the rest is as in d₀
pub record Writing (f : ℕ → ℕ) (d₀ d : List ℕ) (j : ℕ) : Type 0 where
  pub low : j ≤ length d₀
  pub so_far : d ≡ table j f ++ drop j d₀

pub begin : {f : ℕ → ℕ} {d₀ : List ℕ} → Writing f d₀ d₀ 0
unfolding table
begin = record { low = omega arith; so_far = refl }

one_more : (f : ℕ → ℕ) (d₀ d : List ℕ) (j v : ℕ)
    → j < length d₀ → d ≡ table j f ++ drop j d₀ → v ≡ f j → set d j v ≡ table (j + 1) f ++ drop (j + 1) d₀
unfolding table
one_more f d₀ d j v h e q =
    rw (e, drop-cons d₀ j 0, set_at (table j f) (get_or d₀ j 0) (drop (suc j) d₀) v j (length-table j f), add-one j, q)
    (sym (append_snoc (table j f) (f j) (drop (suc j) d₀)))

pub step : {f : ℕ → ℕ} {d₀ d : List ℕ} {j v : ℕ} → Writing f d₀ d j → j < length d₀ → v ≡ f j → Writing f d₀ (set d j v) (j + 1)
step {f} {d₀} {d} {j} {v} w h q = record { low = omega arith; so_far = one_more f d₀ d j v h w.so_far q }

pub long : {f : ℕ → ℕ} {d₀ d : List ℕ} {j : ℕ} → Writing f d₀ d j → length d ≡ length d₀
long {f} {d₀} {d} {j} w = rw (w.so_far, length-append, length-table, length-drop) (omega arith)

pub all : {f : ℕ → ℕ} {d₀ d : List ℕ} {j : ℕ} (n : ℕ) → Writing f d₀ d j → j ≡ n → d ≡ table n f ++ drop n d₀
all {f} {d₀} {d} {j} n w e = w.so_far ∙ ap (λ (m : ℕ). table m f ++ drop m d₀) e
