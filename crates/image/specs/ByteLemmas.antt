-- Lemmas: nothing here has to be believed.
-- Parts of lists of bytes are lists of bytes, and one test tells whether a list is one.
use Rattle.std.specs.Prelude.{ℕ, zero, suc, ◌+◌, ◌<◌, ◌≡◌, Bool, true, ◌&&◌, List, [], ◌∷◌, ltb, take, drop}
use Rattle.std.proofs.Common.{sym, subst, arith, ltb-true, get_or-drop}
use Rattle.lemmas.specs.logic.Tests.{both_left, both_right}
use Rattle.image.specs.Part.{AllBytes}

pub dropped-bytes : (n : ℕ) (s : List ℕ) → AllBytes s → AllBytes (drop n s)
dropped-bytes n s b i = subst (λ (x : ℕ). x < 256) (sym (get_or-drop n s i 0)) (b (n + i))

pub taken-bytes : (n : ℕ) (s : List ℕ) → AllBytes s → AllBytes (take n s)
taken-bytes zero s b i = omega arith
taken-bytes (suc n) [] b i = omega arith
taken-bytes (suc n) (x ∷ s) b zero = b 0
taken-bytes (suc n) (x ∷ s) b (suc i) = taken-bytes n s (λ j. b (suc j)) i

abbrev pub bytes_alone : List ℕ → Bool
bytes_alone [] = true
bytes_alone (x ∷ xs) = (ltb x 256 && bytes_alone xs)

pub bytes-by : (xs : List ℕ) → bytes_alone xs ≡ true → AllBytes xs
bytes-by [] h i = omega arith
bytes-by (x ∷ xs) h zero = ltb-true x 256 (both_left (ltb x 256) (bytes_alone xs) h)
bytes-by (x ∷ xs) h (suc i) = bytes-by xs (both_right (ltb x 256) (bytes_alone xs) h) i
