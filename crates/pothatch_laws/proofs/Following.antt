-- Where each call keeps what the lent bytes stand for, and answers as the call on the value does, so do lists of them.
use mathlib.Core.Path.{◌≡◌, refl, ap₂}
use mathlib.Core.List.{List, ◌∷◌}
use Rattle.pothatch_laws.specs.Runs.{Runs, none_made, next-made, As}

-- one call: it answered as the call on the value m, and what it left stands for the value after it
pub record Step {C M T L : Type 0} (tell : C → M → T) (after : C → M → M) (Stands : M → L → Type 0) (c : C) (m : M) (t : T) (y : L)
    : Type 0 where
  pub same : t ≡ tell c m
  pub stands : Stands (after c m) y

module _ {C M T L : Type 0} (Did : C → L → T → L → Type 0) (tell : C → M → T) (after : C → M → M) (Stands : M → L → Type 0) (shown : M → L)
    (seen : (m : M) (x : L) → Stands m x → x ≡ shown m)
    (step : (c : C) (m : M) (x : L) (t : T) (y : L) → Stands m x → Did c x t y → Step tell after Stands c m t y) where
  abbrev Like : List C → M → List T → L → Type 0
  Like = As tell after shown

  first_then : (c : C) (cs : List C) (m : M) (t : T) (ts : List T) (z : L) → t ≡ tell c m → Like cs (after c m) ts z
      → Like (c ∷ cs) m (t ∷ ts) z
  first_then c cs m t ts z e r = record { answered = ap₂ (λ (u : T) (us : List T). u ∷ us) e r.answered; left = r.left }

  pub runs : (cs : List C) (m : M) (x : L) (ts : List T) (z : L) → Stands m x → Runs Did cs x ts z → Like cs m ts z
  runs cs m x ts z a none_made = record { answered = refl; left = seen m x a }
  runs cs m x ts z a (next-made {c = c} {cs = ds} {y = y} {t = t} {ts = us} d r) =
      let p = step c m x t y a d in
      first_then c ds m t us z p.same (runs ds (after c m) y us z p.stands r)

  -- from a first call on that needs nothing of what stood there
  pub runs-from : (c : C) (cs : List C) (m : M) (x : L) (ts : List T) (z : L)
      → ((t : T) (y : L) → Did c x t y → Step tell after Stands c m t y) → Runs Did (c ∷ cs) x ts z → Like (c ∷ cs) m ts z
  runs-from c cs m x ts z first (next-made {y = y} {t = t} {ts = us} d r) =
      let p = first t y d in
      first_then c cs m t us z p.same (runs cs (after c m) y us z p.stands r)
