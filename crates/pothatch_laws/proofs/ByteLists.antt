-- A list has bytes alone if each of its elements is below 256.
use Prim.Native.Nat.{ℕ, zero, suc}
use mathlib.Core.Bool.{Bool, true, ◌&&◌}
use mathlib.Core.List.{List, [], ◌∷◌}
use mathlib.Core.Path.{◌≡◌}
use native.Mathlib.Omega.{arith}
use borrow.Author.Tests.{ltb-true}
use lib.Dec.{ltb}
use Rattle.lemmas.specs.logic.Tests.{both_left, both_right}
use Rattle.image.specs.Part.{AllBytes}

abbrev pub bytes_alone : List ℕ → Bool
bytes_alone [] = true
bytes_alone (x ∷ xs) = (ltb x 256 && bytes_alone xs)

pub bytes-by : (xs : List ℕ) → bytes_alone xs ≡ true → AllBytes xs
bytes-by [] h i = omega arith
bytes-by (x ∷ xs) h zero = ltb-true x 256 (both_left (ltb x 256) (bytes_alone xs) h)
bytes-by (x ∷ xs) h (suc i) = bytes-by xs (both_right (ltb x 256) (bytes_alone xs) h) i
