-- Whatever a call answers but 0, ledger and memory are as they were, and its results are all zero;
-- a struct of another length is not touched.
use Rattle.std.specs.Prelude.{ℕ, List, ◌≡◌}
use Rattle.address_ledger_laws.specs.Demand1.{LedgerCall}
use Rattle.image.specs.Effects.{zeroed}
use Rattle.ledger_calls.specs.Ledger.{Opens, LedgerDid, Counts}

pub record LedgerRefusals : Type 0 where
  pub opening : (first size : ℕ) (m s : List ℕ) (r : ℕ) (s' : List ℕ) → Opens first size m s r s' → (r ≡ 0 → ⊥) → s' ≡ zeroed 16 s
  pub call : (c : LedgerCall) (s m : List ℕ) (r : ℕ) (s' m' : List ℕ) (v : ℕ) → LedgerDid c s m r s' m' v → (r ≡ 0 → ⊥)
      → (s' ≡ s) × (m' ≡ m) × (v ≡ 0)
  pub count : (s : List ℕ) (r v : ℕ) → Counts s r v → (r ≡ 0 → ⊥) → v ≡ 0
