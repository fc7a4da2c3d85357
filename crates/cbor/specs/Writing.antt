-- Lemma: a head that is written.
use Rattle.refusal.specs.declared.Refusal.{Refusal}
use Rattle.std.specs.Prelude.{ℕ, ◌≤◌, List, Result}
use Rattle.std.proofs.Common.{le-ltb}
use Rattle.byte_io.specs.Write.{emit, Did}
use Rattle.cbor.specs.Encode.{shortest}
use Rattle.cbor.specs.Answer.{head_plan}

-- a head of a major type that there is
pub head-did : (m n : ℕ) (d : List ℕ) (r : Result ℕ Refusal) (d' : List ℕ) → m ≤ 7 → Did (head_plan m n) d r d'
    → Did (emit (shortest m n)) d r d'
head-did m n d r d' h w = simp (le-ltb 7 m h) at w
