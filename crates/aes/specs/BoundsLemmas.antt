-- Lemmas: nothing here has to be believed.
-- Lists that are joined, cut, or given by entries that are bytes are lists of bytes; the sum of two bytes is a byte.
use Rattle.std.specs.Prelude.{List, [], ◌∷◌, ◌++◌, ℕ, zero, suc, ◌<◌, take}
use Rattle.std.proofs.Common.{arith}
use Rattle.std.proofs.lemmas.Nat.{xor_lt}
use Rattle.lemmas.specs.lists.Xor.{◌⊕◌}
use Rattle.lemmas.specs.lists.Table.{table}
use Rattle.aes.specs.Bounds.{Bytes}

pub xor-byte : (a b : ℕ) → a < 256 → b < 256 → a ⊕ b < 256
unfolding ◌⊕◌
xor-byte a b h k = xor_lt 8 a b h k

pub none : Bytes []
none i = omega arith

pub one : (x : ℕ) (s : List ℕ) → x < 256 → Bytes s → Bytes (x ∷ s)
one x s h b zero = h
one x s h b (suc i) = b i

pub joined : (a b : List ℕ) → Bytes a → Bytes b → Bytes (a ++ b)
joined [] b f g = g
joined (x ∷ a) b f g = one x (a ++ b) (f 0) (joined a b (λ i. f (suc i)) g)

pub cut : (n : ℕ) (s : List ℕ) → Bytes s → Bytes (take n s)
cut zero s f = none
cut (suc n) [] f = none
cut (suc n) (x ∷ s) f = one x (take n s) (f 0) (cut n s (λ i. f (suc i)))

pub tabled : (n : ℕ) (f : ℕ → ℕ) → ((i : ℕ) → f i < 256) → Bytes (table n f)
unfolding table
tabled zero f h = none
tabled (suc n) f h = joined (table n f) (f n ∷ []) (tabled n f h) (one (f n) [] (h n) none)
