-- Two objects are the same if role and taken parameters agree: an absent parameter is as good as a discarded one.
use Rattle.std.specs.Prelude.{ℕ, ◌≡◌, cond, List}
use Rattle.std.proofs.Math.Option.{Option, none, some}
use Rattle.link_key.specs.set.KeySet.{keys_of}
use Rattle.link_key.specs.declared.Key.{Key}
use Rattle.cojp.specs.Reading.{if_taken}
use Rattle.cojp.specs.Lists.{bytes_in as list_bytes}
use Rattle.cojp.specs.Octets.{bytes_in}
use Rattle.cojp.specs.declared.address.AddressParameter.{AddressParameter}
use Rattle.cojp.specs.declared.address.ShortAddress.{ShortAddress}
use Rattle.cojp.specs.declared.configuration.Configuration.{Configuration}
use Rattle.cojp.specs.declared.key_set.KeysParameter.{KeysParameter}
use Rattle.cojp.specs.declared.list.ListParameter.{ListParameter}
use Rattle.cojp.specs.declared.octets.OctetsParameter.{OctetsParameter}
use Rattle.cojp.specs.declared.rate.RateParameter.{RateParameter}
use Rattle.cojp.specs.declared.request.JoinRequest.{JoinRequest}

-- ---- what is taken: the bytes, which may be none
abbrev pub octets_taken : OctetsParameter → Option (List ℕ)
octets_taken p = if_taken p.disposition (some (bytes_in p.value)) none

-- an address and its lease; one without a lease is another than one with a lease
abbrev pub lease_of : ShortAddress → Option ℕ
lease_of a = cond a.leased (some a.lease) none

abbrev pub address_taken : AddressParameter → Option (List ℕ × Option ℕ)
address_taken p = if_taken p.disposition (some (p.value.bytes, lease_of p.value)) none

-- identifiers, usages, values and additional information in their order
abbrev pub keys_taken : KeysParameter → Option (List Key)
keys_taken p = if_taken p.disposition (some (keys_of p.value)) none

-- the members of a list as they are written; a list of none is another than no list
abbrev pub list_taken : ListParameter → Option (ℕ × List ℕ)
list_taken p = if_taken p.disposition (some (p.value.count, list_bytes p.value)) none

abbrev pub rate_taken : RateParameter → Option ℕ
rate_taken p = if_taken p.disposition (some p.value) none

-- ---- the relation: what was passed over, and what was reported, does not count
pub record SameRequest (p q : JoinRequest) : Type 0 where
  pub role : p.role ≡ q.role
  pub network : octets_taken p.network ≡ octets_taken q.network
  pub unsupported : list_taken p.unsupported ≡ list_taken q.unsupported

pub record SameConfiguration (c d : Configuration) : Type 0 where
  pub keys : keys_taken c.keys ≡ keys_taken d.keys
  pub address : address_taken c.address ≡ address_taken d.address
  pub jrc : octets_taken c.jrc ≡ octets_taken d.jrc
  pub network : octets_taken c.network ≡ octets_taken d.network
  pub prefix : octets_taken c.prefix ≡ octets_taken d.prefix
  pub blacklist : list_taken c.blacklist ≡ list_taken d.blacklist
  pub rate : rate_taken c.rate ≡ rate_taken d.rate
