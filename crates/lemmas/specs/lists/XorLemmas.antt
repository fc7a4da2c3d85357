-- Lemmas: nothing here has to be believed.
-- Exclusive or may be taken in any order, and adding a number twice takes it away again.
use Rattle.std.specs.Prelude.{◌≡◌, refl, ℕ, zero, suc, ◌+◌, ◌*◌, ◌/◌, ◌%◌, ◌<◌}
use Rattle.std.proofs.Common.{sym, ◌∙◌, ap, ap₂, mod-lt, zero-lt-suc, arith}
use Rattle.std.proofs.Math.Arith.{bin_ind}
use Rattle.std.specs.Int.Bits.{bit_xor, differ, xor_step, xor_zero_l, xor_zero_r, xor_self}
use Rattle.std.proofs.lemmas.Nat.{xor_shr, xor_mod, xor_comm}
use Rattle.lemmas.specs.lists.Xor.{◌⊕◌}

-- associativity digit by digit
digits : (x y z : ℕ) → x < 2 → y < 2 → z < 2 → differ (bit_xor x y) z ≡ differ x (bit_xor y z)
digits zero zero zero h k l = refl
digits zero zero (suc zero) h k l = refl
digits zero zero (suc (suc z)) h k l = absurd (omega arith)
digits zero (suc zero) zero h k l = refl
digits zero (suc zero) (suc zero) h k l = refl
digits zero (suc zero) (suc (suc z)) h k l = absurd (omega arith)
digits zero (suc (suc y)) z h k l = absurd (omega arith)
digits (suc zero) zero zero h k l = refl
digits (suc zero) zero (suc zero) h k l = refl
digits (suc zero) zero (suc (suc z)) h k l = absurd (omega arith)
digits (suc zero) (suc zero) zero h k l = refl
digits (suc zero) (suc zero) (suc zero) h k l = refl
digits (suc zero) (suc zero) (suc (suc z)) h k l = absurd (omega arith)
digits (suc zero) (suc (suc y)) z h k l = absurd (omega arith)
digits (suc (suc x)) y z h k l = absurd (omega arith)

bit-lt : (n : ℕ) → n % 2 < 2
bit-lt n = mod-lt n (zero-lt-suc 1)

assoc : (a b c : ℕ) → bit_xor (bit_xor a b) c ≡ bit_xor a (bit_xor b c)
assoc a =
    bin_ind (λ (n : ℕ). (b c : ℕ) → bit_xor (bit_xor n b) c ≡ bit_xor n (bit_xor b c))
    (λ b c. ap (λ (x : ℕ). bit_xor x c) (xor_zero_l b) ∙ sym (xor_zero_l (bit_xor b c)))
    (λ n ih b c. xor_step (bit_xor n b) c
    ∙ ap₂ (λ (x y : ℕ). x * 2 + y)
    (ap (λ (x : ℕ). bit_xor x (c / 2)) (xor_shr n b 1) ∙ ih (b / 2) (c / 2) ∙ ap (λ (x : ℕ). bit_xor (n / 2) x) (sym (xor_shr b c 1)))
    (ap (λ (x : ℕ). differ x (c % 2)) (xor_mod n b 1) ∙ digits (n % 2) (b % 2) (c % 2) (bit-lt n) (bit-lt b) (bit-lt c)
    ∙ ap (λ (x : ℕ). differ (n % 2) x) (sym (xor_mod b c 1)))
    ∙ sym (xor_step n (bit_xor b c))) a

pub plus_assoc : (a b c : ℕ) → a ⊕ b ⊕ c ≡ a ⊕ (b ⊕ c)
unfolding ◌⊕◌
plus_assoc a b c = assoc a b c

pub plus_comm : (a b : ℕ) → a ⊕ b ≡ b ⊕ a
unfolding ◌⊕◌
plus_comm a b = xor_comm a b

pub plus-zero : (a : ℕ) → a ⊕ 0 ≡ a
unfolding ◌⊕◌
plus-zero a = xor_zero_r a

plus-self : (a : ℕ) → a ⊕ a ≡ 0
unfolding ◌⊕◌
plus-self a = xor_self a

pub cancel : (a b : ℕ) → a ⊕ b ⊕ b ≡ a
cancel a b = plus_assoc a b b ∙ ap (λ (x : ℕ). a ⊕ x) (plus-self b) ∙ plus-zero a

-- four terms, the first put last
pub turn : (a b c d : ℕ) → a ⊕ b ⊕ c ⊕ d ≡ b ⊕ c ⊕ d ⊕ a
turn a b c d =
    ap (λ (x : ℕ). x ⊕ d) (plus_assoc a b c)
    ∙ plus_assoc a (b ⊕ c) d
    ∙ plus_comm a (b ⊕ c ⊕ d)
