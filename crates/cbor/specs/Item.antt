-- CBOR data items (RFC 7049, section 2): what a payload's bytes mean, as a tree.
use Rattle.std.specs.Prelude.{ℕ, suc, ◌^◌, ◌<◌, max, List, length}

-- the three sizes of a float; a float keeps its size, and its bits are not judged
pub data Size : Type 0 where
  half single double : Size

mutual
  pub data Item : Type 0 where
    unsigned : ℕ → Item
    -- -1 - n
    negative : ℕ → Item
    bytes : List ℕ → Item
    text : List ℕ → Item
    array : Items → Item
    map_item : Pairs → Item
    tag : ℕ → Item → Item
    simple : ℕ → Item
    float : Size → ℕ → Item

  pub data Items : Type 0 where
    no_items : Items
    more : Item → Items → Items

  pub data Pairs : Type 0 where
    empty : Pairs
    pair : Item → Item → Pairs → Pairs

-- how many items, how many pairs
abbrev pub count : Items → ℕ
count no_items = 0
count (more i is) = suc (count is)

abbrev pub count_pairs : Pairs → ℕ
count_pairs empty = 0
count_pairs (pair k v ps) = suc (count_pairs ps)

-- how many levels an item takes: the outermost item is level 1, a member and the content of a tag one deeper
abbrev mutual
  pub depth : Item → ℕ
  depth (unsigned n) = 1
  depth (negative n) = 1
  depth (bytes s) = 1
  depth (text s) = 1
  depth (array is) = suc (depths is)
  depth (map_item ps) = suc (depth_pairs ps)
  depth (tag n i) = suc (depth i)
  depth (simple n) = 1
  depth (float w n) = 1

  pub depths : Items → ℕ
  depths no_items = 0
  depths (more i is) = max (depth i) (depths is)

  pub depth_pairs : Pairs → ℕ
  depth_pairs empty = 0
  depth_pairs (pair k v ps) = max (depth k) (max (depth v) (depth_pairs ps))

-- how many bytes hold a float's bits
abbrev pub width : Size → ℕ
width half = 2
width single = 4
width double = 8

-- every argument and count fits the 64 bits that a head can hold, a simple value its 8, a float its width
abbrev mutual
  pub Fit : Item → Type 0
  Fit (unsigned n) = n < 2 ^ 64
  Fit (negative n) = n < 2 ^ 64
  Fit (bytes s) = length s < 2 ^ 64
  Fit (text s) = length s < 2 ^ 64
  Fit (array is) = (count is < 2 ^ 64) × Fits is
  Fit (map_item ps) = (count_pairs ps < 2 ^ 64) × FitPairs ps
  Fit (tag n i) = (n < 2 ^ 64) × Fit i
  Fit (simple n) = n < 256
  Fit (float w n) = n < 256 ^ width w

  pub Fits : Items → Type 0
  Fits no_items = Unit {0}
  Fits (more i is) = Fit i × Fits is

  pub FitPairs : Pairs → Type 0
  FitPairs empty = Unit {0}
  FitPairs (pair k v ps) = Fit k × Fit v × FitPairs ps
