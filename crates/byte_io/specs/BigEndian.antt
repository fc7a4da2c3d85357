-- Numbers in bytes, the most significant byte first.
use Rattle.std.specs.Prelude.{ℕ, zero, suc, ◌+◌, ◌*◌, ◌/◌, ◌%◌, List, [], ◌∷◌, ◌++◌}

-- the number that bytes hold after v was read: each byte further counts 256 times what stands before it
unfoldable pub digits : ℕ → List ℕ → ℕ
digits v [] = v
digits v (b ∷ s) = digits (v * 256 + b) s

abbrev pub big_endian : List ℕ → ℕ
big_endian s = digits 0 s

-- n in k bytes
unfoldable pub bytes_of : ℕ → ℕ → List ℕ
bytes_of zero n = []
bytes_of (suc k) n = bytes_of k (n / 256) ++ (n % 256 ∷ [])
