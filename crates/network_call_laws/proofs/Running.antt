-- Calls that were made after others were made with them.
use mathlib.Core.List.{List, ◌++◌}
use Rattle.pothatch_laws.specs.Runs.{Runs, none_made, next-made}

module _ {C L T : Type 0} (Did : C → L → T → L → Type 0) where
  pub runs_append : {cs ds : List C} {x y z : L} {ts us : List T} → Runs Did cs x ts y → Runs Did ds y us z
      → Runs Did (cs ++ ds) x (ts ++ us) z
  runs_append none_made r = r
  runs_append (next-made d q) r = next-made d (runs_append q r)
