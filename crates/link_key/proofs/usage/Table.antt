-- A table that a rule gives place by place, as one list that antt computes; at each place stands what the rule says of it.
use Prim.Native.Nat.{ℕ, zero, suc, ◌+◌, ◌<◌}
use native.Mathlib.Nat.{add-zero, zero-add, add-suc, suc-add, le_of_suc-le-suc, not-suc-le-zero}
use mathlib.Core.Path.{◌≡◌, ap, sym, ◌∙◌}
use mathlib.Core.List.{List, [], ◌∷◌}
use lib.ListN.{get_or}

module _ {A : Type 0} where
  -- what the rule says of n places, counted from i
  abbrev pub ruled : (ℕ → A) → ℕ → ℕ → List A
  ruled rule i zero = []
  ruled rule i (suc n) = rule i ∷ ruled rule (suc i) n

  from : (rule : ℕ → A) (i n k : ℕ) (d : A) → k < n → get_or (ruled rule i n) k d ≡ rule (i + k)
  from rule i zero k d h = absurd (not-suc-le-zero h)
  from rule i (suc n) zero d h = ap rule (sym (add-zero i))
  from rule i (suc n) (suc k) d h = from rule (suc i) n k d (le_of_suc-le-suc h) ∙ ap rule (suc-add i k ∙ sym (add-suc i k))

  pub at : (rule : ℕ → A) (n k : ℕ) (d : A) → k < n → get_or (ruled rule 0 n) k d ≡ rule k
  at rule n k d h = from rule 0 n k d h ∙ ap rule (zero-add k)
