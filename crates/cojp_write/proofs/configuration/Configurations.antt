-- A configuration: its bytes, and the room that its parameters take.
use Prim.Native.Nat.{ℕ, ◌+◌, ◌≤◌}
use mathlib.Core.Path.{◌≡◌, ◌∙◌}
use mathlib.Core.List.{List, ◌++◌, append_assoc}
use native.Mathlib.Omega.{arith}
use lib.ListN.{length, length-append}
use Rattle.byte_io.specs.Write.{Wrote}
use Rattle.cbor.specs.Encode.{shortest, encode, encode_pairs}
use Rattle.cbor.specs.HeadLaws.{HeadLaws}
use Rattle.cbor.specs.Item.{map_item, count_pairs}
use Rattle.cojp.specs.Lists.{strings_in}
use Rattle.cojp.specs.Writing.{join, keys_pairs, address_pairs, octets_pairs, list_pairs, rate_pairs, configuration_pairs}
use Rattle.cojp.specs.declared.configuration.Configuration.{Configuration}
use Rattle.cojp.specs.declared.octets.OctetsParameter.{OctetsParameter}
use Rattle.cojp_list.specs.Laws.{ListWritten}
use Rattle.cojp_write.specs.octets.Fits.{ConfigurationFits}
use Rattle.cojp_write.specs.octets.Plan.{list_bytes}
use Rattle.cojp_write.specs.octets.Size.{Sizes, PairsSize}
use Rattle.cojp_write.specs.declared.octets.size.Size.{Size}
use Rattle.cojp.specs.WritingLemmas.{join-bytes, join-count, join-length}
use Rattle.cojp_write.proofs.octets.Lists.{list-bytes, list_count_lem}
use Rattle.cojp_write.proofs.octets.Maps.{map-wrote}
use Rattle.cojp_write.proofs.octets.Sizes.{pairs-size}
use Rattle.cojp_write.specs.configuration.Room.{
  configuration_count,
  configuration_bytes,
  configuration_length,
  front_pairs,
  strings_bytes,
  strings_length,
  additions_bytes,
}

-- the byte strings are written together
pub strings-length : (jrc network prefix : OctetsParameter) → length (strings_bytes jrc network prefix) ≡ strings_length jrc network prefix
strings-length jrc network prefix = simp length-append (omega arith)

module _ (c : Configuration) where
  count-is : count_pairs (configuration_pairs c) ≡ configuration_count c
  count-is =
      omega (
        arith,
        join-count (join (front_pairs c) (list_pairs 6 strings_in c.blacklist)) (rate_pairs c.rate),
        join-count (front_pairs c) (list_pairs 6 strings_in c.blacklist),
        list_count_lem strings_in 6 c.blacklist,
      )

  bytes-are : ListWritten strings_in → ConfigurationFits c → encode_pairs (configuration_pairs c) ≡ configuration_bytes c
  bytes-are law f =
      join-bytes (join (front_pairs c) (list_pairs 6 strings_in c.blacklist)) (rate_pairs c.rate)
      ∙ rw (join-bytes (front_pairs c) (list_pairs 6 strings_in c.blacklist), list-bytes strings_in law 6 c.blacklist f.blacklist)

  pub front_length :
      length (encode_pairs (front_pairs c))
      ≡ length (encode_pairs (keys_pairs c.keys))
      + (length (encode_pairs (address_pairs c.address)) + strings_length c.jrc c.network c.prefix)
  front_length =
      let ka = join (keys_pairs c.keys) (address_pairs c.address) in
      let kaj = join ka (octets_pairs 4 c.jrc) in
      let kajn = join kaj (octets_pairs 5 c.network) in
      omega (
        arith,
        join-length (keys_pairs c.keys) (address_pairs c.address),
        join-length ka (octets_pairs 4 c.jrc),
        join-length kaj (octets_pairs 5 c.network),
        join-length kajn (octets_pairs 6 c.prefix),
      )

  -- the room that a configuration's parameters take
  pub configuration-length : (m : ℕ) → length (shortest 5 m) + length (configuration_bytes c) ≡ configuration_length c m
  configuration-length m =
      omega (
        arith,
        length-append (encode_pairs (front_pairs c) ++ list_bytes 6 c.blacklist) (encode_pairs (rate_pairs c.rate)),
        length-append (encode_pairs (front_pairs c)) (list_bytes 6 c.blacklist),
        front_length,
      )

  front-parts : (m : ℕ)
      → shortest 5 m ++ encode_pairs (front_pairs c)
      ≡ ((shortest 5 m ++ encode_pairs (keys_pairs c.keys)) ++ encode_pairs (address_pairs c.address))
      ++ strings_bytes c.jrc c.network c.prefix
  front-parts m = simp (join-bytes, append_assoc)

  pub front-wrote : (m : ℕ) {d d' : List ℕ} {n : ℕ}
      → Wrote (((shortest 5 m ++ encode_pairs (keys_pairs c.keys)) ++ encode_pairs (address_pairs c.address))
      ++ strings_bytes c.jrc c.network c.prefix) d n d'
      → Wrote (shortest 5 m ++ encode_pairs (front_pairs c)) d n d'
  front-wrote m w = rw (front-parts m) w

  all-parts : (m : ℕ)
      → shortest 5 m ++ configuration_bytes c ≡ (shortest 5 m ++ encode_pairs (front_pairs c)) ++ additions_bytes c.blacklist c.rate
  all-parts m = simp append_assoc

  pub configuration-wrote : (m : ℕ) {d d' : List ℕ} {n : ℕ}
      → Wrote ((shortest 5 m ++ encode_pairs (front_pairs c)) ++ additions_bytes c.blacklist c.rate) d n d'
      → Wrote (shortest 5 m ++ configuration_bytes c) d n d'
  configuration-wrote m w = rw (all-parts m) w

  -- ---- the size, as that of the pairs
  module _ (law : ListWritten strings_in) (f : ConfigurationFits c) {s : Size}
      (z : Sizes (configuration_count c) (configuration_bytes c) 7 672 s) where
    pub configuration-sized : PairsSize (configuration_pairs c) 7 672 s
    configuration-sized = pairs-size (configuration_pairs c) count-is (bytes-are law f) z

    pub configuration-room : HeadLaws → (d : List ℕ) → 1 + s.bytes ≤ length d → configuration_length c s.members ≤ length d
    configuration-room heads d h =
        omega (arith, z.bytes, configuration-length s.members, heads.short-head 5 s.members (omega (arith, z.few)))

    pub configuration-map : {d d' : List ℕ} {n : ℕ} → Wrote (shortest 5 s.members ++ configuration_bytes c) d n d'
        → Wrote (encode (map_item (configuration_pairs c))) d n d'
    configuration-map w = map-wrote (configuration_pairs c) configuration-sized.members (bytes-are law f) w
