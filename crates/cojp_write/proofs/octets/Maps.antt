-- An object is a map whose head takes one byte: RANGE over 256 bytes, ROOM, and what is written where there is room.
use Rattle.std.specs.Prelude.{Ok, Err}
use Prim.Native.Nat.{ℕ, ◌+◌, ◌≤◌, ◌<◌}
use mathlib.Core.Path.{◌≡◌, ◌∙◌}
use mathlib.Core.List.{List, ◌++◌}
use native.Mathlib.Omega.{arith}
use lib.ListN.{length, length-append}
use borrow.Author.Tests.{le-leb, lt-leb}
use Rattle.refusal.specs.declared.Refusal.TheVariants.{Room, Range}
use Rattle.byte_io.specs.Write.{Did, Wrote, emit, refuse}
use Rattle.cbor.specs.Encode.{shortest, encode, encode_pairs}
use Rattle.cbor.specs.HeadLaws.{HeadLaws}
use Rattle.cbor.specs.Item.{Pairs, map_item, count_pairs}
use Rattle.byte_io.specs.WriteLemmas.{did-room, did-emit}
use Rattle.cojp.specs.Writing.{fits}
use Rattle.cojp_write.specs.octets.Size.{PairsSize}
use Rattle.cojp_write.specs.declared.octets.size.Size.{Size}

module _ (heads : HeadLaws) where
  pub map-length : (ps : Pairs) → count_pairs ps ≤ 23 → length (encode (map_item ps)) ≡ 1 + length (encode_pairs ps)
  map-length ps h = length-append (shortest 5 (count_pairs ps)) (encode_pairs ps) ∙ rw (heads.short-head 5 (count_pairs ps) h)

  module _ (ps : Pairs) {k m : ℕ} {s : Size} (z : PairsSize ps k m s) (few : k ≤ 23) (d : List ℕ) where
    whole : length (encode (map_item ps)) ≡ 1 + s.bytes
    whole = map-length ps (omega (arith, z.members, z.few)) ∙ omega (arith, z.bytes)

    -- RANGE over 256 bytes, whatever the room
    pub map-over : 256 < 1 + s.bytes → fits (encode (map_item ps)) ≡ refuse Range
    map-over h = rw (lt-leb (length (encode (map_item ps))) 256 (omega (arith, whole)))

    pub map-within : 1 + s.bytes ≤ 256 → fits (encode (map_item ps)) ≡ emit (encode (map_item ps))
    map-within h = rw (le-leb (length (encode (map_item ps))) 256 (omega (arith, whole)))

    pub map-room : length d < 1 + s.bytes → Did (emit (encode (map_item ps))) d (Err Room) d
    map-room h = did-room (encode (map_item ps)) d (omega (arith, whole))

    module _ (room : 1 + s.bytes ≤ length d) where
      pub map-emit : {n : ℕ} {d' : List ℕ} → Wrote (encode (map_item ps)) d n d' → Did (emit (encode (map_item ps))) d (Ok n) d'
      map-emit w = did-emit (omega (arith, whole)) w

-- the same with the number and the bytes of the pairs by other names
pub map-wrote : (ps : Pairs) {m n : ℕ} {b d d' : List ℕ} → m ≡ count_pairs ps → encode_pairs ps ≡ b → Wrote (shortest 5 m ++ b) d n d'
    → Wrote (encode (map_item ps)) d n d'
map-wrote ps e f w = rw (← e, f) w
