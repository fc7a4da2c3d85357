-- Objects are written as maps with ascending labels and shortest heads.
-- Role 0 and usage 0 are omitted, and so are absent and discarded parameters. One list of pairs serves both forms, since what does not
-- belong to a form is absent in it.
use Rattle.std.specs.Prelude.{ℕ, Bool, true, false, cond, not, ◌&&◌, List, [], ◌∷◌, leb, eqb, length}
use Rattle.refusal.specs.declared.Refusal.TheVariants.{Range, Owed}
use Rattle.byte_io.specs.Write.{Plan, refuse, emit}
use Rattle.cbor.specs.Encode.{encode}
use Rattle.cbor.specs.Item.{Item, Items, Pairs, unsigned, bytes, array, map_item, no_items, more, empty, pair}
use Rattle.cbor.specs.View.{Scalar}
use Rattle.link_key.specs.AdditionalInfo.{additional_info_bytes}
use Rattle.link_key.specs.set.KeySet.{keys_of, valid_set, no_additional_infos}
use Rattle.link_key.specs.declared.Key.{Key}
use Rattle.link_key.specs.declared.additional_info.AdditionalInfo.{AdditionalInfo}
use Rattle.link_key.specs.declared.additional_info.AdditionalInfo.TheVariants as info
use Rattle.cojp.specs.Reading.{if_taken}
use Rattle.cojp.specs.Lists.{Picked, strings_in, error_reports_in, at_least_one, items_in, kept}
use Rattle.cojp.specs.Octets.{bytes_in}
use Rattle.short_address.specs.Address.{is_address}
use Rattle.cojp.specs.Request.{owing}
use Rattle.protocol_version.specs.Version.{by_version}
use Rattle.cojp.specs.declared.address.AddressParameter.{AddressParameter}
use Rattle.cojp.specs.declared.configuration.Configuration.{Configuration}
use Rattle.cojp.specs.declared.key_set.KeysParameter.{KeysParameter}
use Rattle.cojp.specs.declared.list.ListParameter.{ListParameter}
use Rattle.cojp.specs.declared.octets.OctetsParameter.{OctetsParameter}
use Rattle.cojp.specs.declared.rate.RateParameter.{RateParameter}
use Rattle.cojp.specs.declared.disposition.Disposition.{Disposition}
use Rattle.cojp.specs.declared.request.JoinRequest.{JoinRequest}
use Rattle.protocol_version.specs.declared.Version.{Version}

-- one after the other
abbrev pub join : Pairs → Pairs → Pairs
join empty qs = qs
join (pair k v ps) qs = pair k v (join ps qs)

abbrev pub chain : Items → Items → Items
chain no_items js = js
chain (more i is) js = more i (chain is js)

abbrev pub labelled : ℕ → Item → Pairs
labelled n i = pair (unsigned n) i empty

-- ---- the parameters
abbrev pub role_pairs : ℕ → Pairs
role_pairs role = cond (eqb role 0) empty (labelled 1 (unsigned role))

abbrev pub octets_pairs : ℕ → OctetsParameter → Pairs
octets_pairs n p = if_taken p.disposition (labelled n (bytes (bytes_in p.value))) empty

abbrev pub lease_items : Bool → ℕ → Items
lease_items true lease = more (unsigned lease) no_items
lease_items false lease = no_items

abbrev pub address_pairs : AddressParameter → Pairs
address_pairs p =
    if_taken p.disposition
    (labelled 3 (array (more (bytes p.value.bytes) (lease_items p.value.leased p.value.lease))))
    empty

abbrev pub usage_items : ℕ → Items
usage_items usage = cond (eqb usage 0) no_items (more (unsigned usage) no_items)

-- additional information is a second byte string
abbrev pub additional_info_items : AdditionalInfo → Items
additional_info_items info.Absent = no_items
additional_info_items (info.Four a b c d) = more (bytes (additional_info_bytes (info.Four a b c d))) no_items
additional_info_items (info.Eight a b c d e f g h) = more (bytes (additional_info_bytes (info.Eight a b c d e f g h))) no_items

abbrev pub group_items : Key → Items
group_items k = chain (more (unsigned k.identifier) (usage_items k.usage)) (more (bytes k.value) (additional_info_items k.info))

abbrev pub groups_items : List Key → Items
groups_items [] = no_items
groups_items (k ∷ ks) = chain (group_items k) (groups_items ks)

abbrev pub keys_pairs : KeysParameter → Pairs
keys_pairs p = if_taken p.disposition (labelled 2 (array (groups_items (keys_of p.value)))) empty

abbrev pub list_pairs : ℕ → (List Scalar → Picked) → ListParameter → Pairs
list_pairs n f p = if_taken p.disposition (labelled n (array (items_in f p.value))) empty

abbrev pub rate_pairs : RateParameter → Pairs
rate_pairs p = if_taken p.disposition (labelled 7 (unsigned p.value)) empty

-- ---- the limits: an absent or discarded parameter is not judged
abbrev pub octets_in_range : OctetsParameter → Bool
octets_in_range p = if_taken p.disposition (leb p.value.len 16) true

abbrev pub jrc_in_range : OctetsParameter → Bool
jrc_in_range p = if_taken p.disposition (eqb p.value.len 16) true

abbrev pub address_in_range : AddressParameter → Bool
address_in_range p = if_taken p.disposition (is_address p.value.bytes) true

abbrev pub keys_in_range : KeysParameter → Bool
keys_in_range p = if_taken p.disposition (valid_set p.value) true

-- a blacklist, and a list of reports
abbrev pub list_in_range : (List Scalar → Picked) → ListParameter → Bool
list_in_range f p = if_taken p.disposition (kept f p.value) true

-- the draft's keys have no additional information
abbrev pub keys_without_additional_info : KeysParameter → Bool
keys_without_additional_info p = if_taken p.disposition (no_additional_infos (keys_of p.value)) true

-- a parameter of the other form
abbrev pub missing : Disposition → Bool
missing r = if_taken r false true

-- a payload has at most 256 bytes
abbrev pub fits : List ℕ → Plan
fits s = cond (leb (length s) 256) (emit s) (refuse Range)

-- ---- the join request
abbrev pub request_pairs : JoinRequest → Pairs
request_pairs q = join (join (role_pairs q.role) (octets_pairs 5 q.network)) (list_pairs 8 (at_least_one error_reports_in) q.unsupported)

unfoldable pub request_in_range : Version → JoinRequest → Bool
request_in_range v q =
    (leb q.role 1
    && octets_in_range q.network
    && by_version v (missing q.unsupported.disposition) (list_in_range (at_least_one error_reports_in) q.unsupported))

-- RANGE, also where the payload would have more than 256 bytes, OWED, then the bytes, for which there may be no ROOM
abbrev pub owing_plan : Bool → Plan → Plan
owing_plan owed (refuse k) = refuse k
owing_plan owed (emit s) = cond owed (refuse Owed) (emit s)

unfoldable pub request_plan : Version → JoinRequest → Plan
request_plan v q =
    cond (not (request_in_range v q))
    (refuse Range)
    (owing_plan (owing v q.role q.network.disposition) (fits (encode (map_item (request_pairs q)))))

-- ---- the configuration
abbrev pub configuration_pairs : Configuration → Pairs
configuration_pairs c =
    join
    (join
    (join
    (join (join (join (keys_pairs c.keys) (address_pairs c.address)) (octets_pairs 4 c.jrc)) (octets_pairs 5 c.network))
    (octets_pairs 6 c.prefix))
    (list_pairs 6 strings_in c.blacklist))
    (rate_pairs c.rate)

-- what a form asks besides: the other form's parameters are missing
unfoldable pub of_version : Version → Configuration → Bool
of_version v c =
    by_version v
    (keys_without_additional_info c.keys && missing c.blacklist.disposition && missing c.rate.disposition)
    (missing c.network.disposition && missing c.prefix.disposition && list_in_range strings_in c.blacklist)

unfoldable pub configuration_in_range : Version → Configuration → Bool
configuration_in_range v c =
    (keys_in_range c.keys
    && address_in_range c.address
    && jrc_in_range c.jrc
    && octets_in_range c.network
    && octets_in_range c.prefix
    && of_version v c)

-- RANGE, also where the payload would have more than 256 bytes, then the bytes, for which there may be no ROOM
unfoldable pub configuration_plan : Version → Configuration → Plan
configuration_plan v c = cond (not (configuration_in_range v c)) (refuse Range) (fits (encode (map_item (configuration_pairs c))))
