-- Whatever a call answers but 0, its destination is as it was, and the length that it answers is 0.
use Rattle.std.specs.Prelude.{ℕ, List, ◌≡◌}
use Rattle.aes_ccm.specs.Plan.{Plan}
use Rattle.cipher_calls.specs.Cipher.{Wrote}

abbrev pub CipherRefusals : Type 0
CipherRefusals =
    (plan : Plan) (d : List ℕ) (r : ℕ) (d' : List ℕ) (n : ℕ) → Wrote plan d r d' n → (r ≡ 0 → ⊥) → (d' ≡ d) × (n ≡ 0)
