-- Whatever a call answers but 0, its destination is as it was, and its results are all zero; a struct of another length is not touched.
use Rattle.std.specs.Prelude.{ℕ, List, ◌≡◌}
use Rattle.byte_io.specs.Write.{Plan}
use Rattle.image.specs.Effects.{zeroed}
use Rattle.payload_calls.specs.Merge.{Merges}
use Rattle.payload_calls.specs.Read.{ReadsRequest, ReadsConfiguration}
use Rattle.payload_calls.specs.Write.{Writes}

pub record PayloadRefusals : Type 0 where
  pub read-request :
      (form reading : ℕ) (p s : List ℕ) (r : ℕ) (s' : List ℕ) → ReadsRequest form reading p s r s' → (r ≡ 0 → ⊥) → s' ≡ zeroed 296 s
  pub read-configuration :
      (form reading : ℕ) (p s : List ℕ) (r : ℕ) (s' : List ℕ) → ReadsConfiguration form reading p s r s' → (r ≡ 0 → ⊥) → s' ≡ zeroed 570 s
  pub write : (plan : Plan) (d : List ℕ) (r : ℕ) (d' : List ℕ) (n : ℕ) → Writes plan d r d' n → (r ≡ 0 → ⊥) → (d' ≡ d) × (n ≡ 0)
  pub merge : (a b s : List ℕ) (r : ℕ) (s' : List ℕ) → Merges a b s r s' → (r ≡ 0 → ⊥) → s' ≡ zeroed 570 s
