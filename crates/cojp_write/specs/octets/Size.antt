-- For the contracts of the writers alone: how many members there are to write, and how many bytes they take.
use Rattle.std.specs.Prelude.{ℕ, ◌+◌, ◌≤◌, List, ◌≡◌, length}
use Rattle.cbor.specs.Encode.{encodes, encode_pairs}
use Rattle.cbor.specs.Item.{Items, Pairs, count, count_pairs}
use Rattle.cojp_write.specs.declared.octets.size.Size.{Size}

-- n members, at most k, in the bytes b, at most m of them
pub record Sizes (n : ℕ) (b : List ℕ) (k m : ℕ) (r : Size) : Type 0 where
  pub members : r.members ≡ n
  pub bytes : r.bytes ≡ length b
  pub few : r.members ≤ k
  pub small : r.bytes ≤ m

abbrev pub ItemsSize : Items → ℕ → ℕ → Size → Type 0
ItemsSize is k m r = Sizes (count is) (encodes is) k m r

abbrev pub PairsSize : Pairs → ℕ → ℕ → Size → Type 0
PairsSize ps k m r = Sizes (count_pairs ps) (encode_pairs ps) k m r

-- the one after the other
pub record Sum (a b r : Size) : Type 0 where
  pub members : r.members ≡ a.members + b.members
  pub bytes : r.bytes ≡ a.bytes + b.bytes
