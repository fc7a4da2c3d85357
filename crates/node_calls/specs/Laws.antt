-- What a caller may rely on at every call of a node: where the number is not 0, the image and the destination hold what they held, and
-- results are all zero; a struct of another length is not touched.
use Rattle.std.specs.Prelude.{ℕ, List, ◌≡◌}
use Rattle.image.specs.Effects.{zeroed}
use Rattle.node_laws.specs.Calls.{NodeCall}
use Rattle.node_calls.specs.Calls.{Makes, Tells, Does, Starts, Gives, Changes}

pub record NodeRefusals : Type 0 where
  pub make : (form role has : ℕ) (x s : List ℕ) (r : ℕ) (s' : List ℕ) → Makes form role has x s r s' → (r ≡ 0 → ⊥) → s' ≡ zeroed 878 s
  pub question : (c : NodeCall) (s : List ℕ) (r v : ℕ) → Tells c s r v → (r ≡ 0 → ⊥) → v ≡ 0
  pub call : (c : NodeCall) (s : List ℕ) (r : ℕ) (s' : List ℕ) (v : ℕ) → Does c s r s' v → (r ≡ 0 → ⊥) → (s' ≡ s) × (v ≡ 0)
  pub start : (time timeout : ℕ) (s d : List ℕ) (r : ℕ) (s' d' : List ℕ) (v : ℕ) → Starts time timeout s d r s' d' v → (r ≡ 0 → ⊥)
      → (s' ≡ s) × ((d' ≡ d) × (v ≡ 0))
  pub answer : (n : ℕ) (c : NodeCall) (s w : List ℕ) (r : ℕ) (w' : List ℕ) → Gives n c s w r w' → (r ≡ 0 → ⊥) → w' ≡ zeroed n w
  pub change : (n : ℕ) (c : NodeCall) (s w : List ℕ) (r : ℕ) (s' w' : List ℕ) → Changes n c s w r s' w' → (r ≡ 0 → ⊥)
      → (s' ≡ s) × (w' ≡ zeroed n w)
