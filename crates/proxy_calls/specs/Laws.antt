-- Whatever a call answers but 0, proxy and destination are as they were, and its results are all zero;
-- a struct of another length is not touched.
use Rattle.std.specs.Prelude.{ℕ, List, ◌≡◌}
use Rattle.image.specs.Effects.{zeroed}
use Rattle.proxy_calls.specs.Proxy.{Makes, SetsKey, IssuesIn, JudgesIn}

pub record ProxyRefusals : Type 0 where
  pub make : (key s : List ℕ) (r : ℕ) (s' : List ℕ) → Makes key s r s' → (r ≡ 0 → ⊥) → s' ≡ zeroed 26 s
  pub set_key : (s key : List ℕ) (r : ℕ) (s' : List ℕ) → SetsKey s key r s' → (r ≡ 0 → ⊥) → s' ≡ s
  pub issue : (s interface : List ℕ) (port : ℕ) (token d : List ℕ) (r : ℕ) (s' d' : List ℕ) → IssuesIn s interface port token d r s' d'
      → (r ≡ 0 → ⊥) → (s' ≡ s) × (d' ≡ d)
  pub judge : (s body w : List ℕ) (r : ℕ) (w' : List ℕ) → JudgesIn s body w r w' → (r ≡ 0 → ⊥) → w' ≡ zeroed 21 w
