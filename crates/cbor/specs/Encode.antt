-- The bytes of a data item, with the shortest heads (RFC 7049, sections 2 and 3.9).
use Rattle.std.specs.Prelude.{ℕ, ◌+◌, ◌*◌, cond, List, [], ◌∷◌, ◌++◌, length, ltb}
use Rattle.byte_io.specs.BigEndian.{bytes_of}
use Rattle.cbor.specs.Item.{Size, half, single, double, Item, Items, Pairs, unsigned, negative, bytes, text}
use Rattle.cbor.specs.Item.{array, map_item, tag, simple, float, no_items, more, empty, pair, count, count_pairs, width}

-- the head of a major type with this length information and k bytes for the argument
abbrev pub head_with : ℕ → ℕ → ℕ → ℕ → List ℕ
head_with major info k n = (major * 32 + info) ∷ bytes_of k n

-- the shortest head that holds an argument: its length information, and how many bytes follow its first
unfoldable pub info_of : ℕ → ℕ
info_of n = cond (ltb n 24) n (cond (ltb n 256) 24 (cond (ltb n 65536) 25 (cond (ltb n 4294967296) 26 27)))

unfoldable pub extra_of : ℕ → ℕ
extra_of n = cond (ltb n 24) 0 (cond (ltb n 256) 1 (cond (ltb n 65536) 2 (cond (ltb n 4294967296) 4 8)))

unfoldable pub shortest : ℕ → ℕ → List ℕ
shortest major n = head_with major (info_of n) (extra_of n) n

-- the length information of a float, which has its own size and no shorter head
abbrev pub size_info : Size → ℕ
size_info half = 25
size_info single = 26
size_info double = 27

abbrev mutual
  pub encode : Item → List ℕ
  encode (unsigned n) = shortest 0 n
  encode (negative n) = shortest 1 n
  encode (bytes s) = shortest 2 (length s) ++ s
  encode (text s) = shortest 3 (length s) ++ s
  encode (array is) = shortest 4 (count is) ++ encodes is
  encode (map_item ps) = shortest 5 (count_pairs ps) ++ encode_pairs ps
  encode (tag n i) = shortest 6 n ++ encode i
  encode (simple n) = shortest 7 n
  encode (float w n) = head_with 7 (size_info w) (width w) n

  pub encodes : Items → List ℕ
  encodes no_items = []
  encodes (more i is) = encode i ++ encodes is

  pub encode_pairs : Pairs → List ℕ
  encode_pairs empty = []
  encode_pairs (pair k v ps) = encode k ++ (encode v ++ encode_pairs ps)
