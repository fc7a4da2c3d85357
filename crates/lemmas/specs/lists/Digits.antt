-- Lemmas: nothing here has to be believed.
-- A number in bytes: division by 256 over and over gives its digits.
use Rattle.std.specs.Prelude.{◌≡◌, ℕ, ◌+◌, ◌*◌, ◌/◌, ◌%◌}
use Rattle.std.proofs.Common.{sym, ◌∙◌, ap, div-add-mod', arith}
use Rattle.std.proofs.Math.Nat.{div-div-eq-div-mul}

whole : (w q r s b c d : ℕ) → q * 256 + b ≡ w → r * 256 + c ≡ q → s * 256 + d ≡ r → w ≡ b + c * 256 + d * 65536 + s * 16777216
whole w q r s b c d e f g = omega arith

-- the three lowest bytes, and what is above them
pub digits : (w : ℕ) → w ≡ w % 256 + w / 256 % 256 * 256 + w / 65536 % 256 * 65536 + w / 16777216 * 16777216
digits w =
    whole w (w / 256) (w / 65536) (w / 16777216) (w % 256) (w / 256 % 256) (w / 65536 % 256) (div-add-mod' w 256)
    (ap (λ (x : ℕ). x * 256 + w / 256 % 256) (sym (div-div-eq-div-mul w 256 256)) ∙ div-add-mod' (w / 256) 256)
    (ap (λ (x : ℕ). x * 256 + w / 65536 % 256) (sym (div-div-eq-div-mul w 65536 256)) ∙ div-add-mod' (w / 65536) 256)
