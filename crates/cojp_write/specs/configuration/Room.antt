-- For the contracts of private functions alone: the room that an array or a configuration with so many
-- members takes, as the sum of its parts.
use Rattle.std.specs.Prelude.{ℕ, ◌+◌, true, not, List, ◌++◌, ◌≡◌, eqb, length}
use Rattle.cbor.specs.Encode.{shortest, encode, encodes, encode_pairs}
use Rattle.cbor.specs.Item.{Items, Pairs, bytes, more, count_pairs}
use Rattle.cojp.specs.Writing.{
  join,
  lease_items,
  additional_info_items,
  groups_items,
  keys_pairs,
  address_pairs,
  octets_pairs,
  rate_pairs,
  jrc_in_range,
  octets_in_range,
}
use Rattle.cojp.specs.declared.address.ShortAddress.{ShortAddress}
use Rattle.cojp.specs.declared.configuration.Configuration.{Configuration}
use Rattle.cojp.specs.declared.list.ListParameter.{ListParameter}
use Rattle.cojp.specs.declared.octets.OctetsParameter.{OctetsParameter}
use Rattle.cojp.specs.declared.rate.RateParameter.{RateParameter}
use Rattle.cojp_write.specs.octets.Plan.{list_bytes, list_count}
use Rattle.link_key.specs.declared.Key.{Key}

-- ---- arrays: a label, a head, and the members
abbrev pub array_length : ℕ → ℕ → ℕ
array_length label members = length (shortest 0 label ++ shortest 4 members)

abbrev pub address_items : ShortAddress → Items
address_items a = more (bytes a.bytes) (lease_items a.leased a.lease)

abbrev pub address_length : ShortAddress → ℕ → ℕ
address_length a members =
    array_length 3 members + (length (encode (bytes a.bytes)) + length (encodes (lease_items a.leased a.lease)))

-- a usage is a number that may be left out
abbrev pub used_items : ℕ → Items
used_items usage = lease_items (not (eqb usage 0)) usage

abbrev pub key_length : Key → ℕ
key_length k =
    length (shortest 0 k.identifier)
    + (length (encodes (used_items k.usage)) + (length (encode (bytes k.value)) + length (encodes (additional_info_items k.info))))

abbrev pub set_length : List Key → ℕ → ℕ
set_length ks members = array_length 2 members + length (encodes (groups_items ks))

-- ---- the configuration: a map's head, and the parameters
abbrev pub pairs_length : Pairs → ℕ
pairs_length ps = length (encode_pairs ps)

-- the byte strings of a configuration: their limits, their bytes, how many these are
abbrev pub StringsFit : OctetsParameter → OctetsParameter → OctetsParameter → Type 0
StringsFit jrc network prefix = (jrc_in_range jrc ≡ true) × (octets_in_range network ≡ true) × (octets_in_range prefix ≡ true)

abbrev pub strings_bytes : OctetsParameter → OctetsParameter → OctetsParameter → List ℕ
strings_bytes jrc network prefix =
    (encode_pairs (octets_pairs 4 jrc) ++ encode_pairs (octets_pairs 5 network)) ++ encode_pairs (octets_pairs 6 prefix)

abbrev pub strings_length : OctetsParameter → OctetsParameter → OctetsParameter → ℕ
strings_length jrc network prefix =
    pairs_length (octets_pairs 4 jrc) + (pairs_length (octets_pairs 5 network) + pairs_length (octets_pairs 6 prefix))

-- blacklist and join rate
abbrev pub additions_bytes : ListParameter → RateParameter → List ℕ
additions_bytes blacklist rate = list_bytes 6 blacklist ++ encode_pairs (rate_pairs rate)

-- keys, address and byte strings, as pairs
abbrev pub front_pairs : Configuration → Pairs
front_pairs c =
    join
    (join (join (join (keys_pairs c.keys) (address_pairs c.address)) (octets_pairs 4 c.jrc)) (octets_pairs 5 c.network))
    (octets_pairs 6 c.prefix)

-- a configuration's pairs as its parameters are written
abbrev pub configuration_count : Configuration → ℕ
configuration_count c = count_pairs (front_pairs c) + list_count c.blacklist + count_pairs (rate_pairs c.rate)

abbrev pub configuration_bytes : Configuration → List ℕ
configuration_bytes c = (encode_pairs (front_pairs c) ++ list_bytes 6 c.blacklist) ++ encode_pairs (rate_pairs c.rate)

-- the room for the map's head and these pairs, and for all
abbrev pub front_length : Configuration → ℕ → ℕ
front_length c members =
    length (shortest 5 members)
    + (pairs_length (keys_pairs c.keys) + (pairs_length (address_pairs c.address) + strings_length c.jrc c.network c.prefix))

abbrev pub configuration_length : Configuration → ℕ → ℕ
configuration_length c members = front_length c members + (length (list_bytes 6 c.blacklist) + pairs_length (rate_pairs c.rate))
