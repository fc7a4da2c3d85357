-- What a node holds of the configurations that it took; in front of each value stands 1 where it is held, else 0. Byte strings 18: held 1,
-- value 17. Short address 20: held 1, value 11, when it was received 8. Blacklist 256: held 1, value 255. Join rate 9: held 1, rate 8.
use Rattle.std.specs.Prelude.{ℕ, Bool}
use Rattle.image.specs.Part.{Part, number, both, viewed}
use Rattle.cojp.specs.declared.address.ShortAddress.{ShortAddress}
use Rattle.cojp.specs.declared.list.ItemList.{ItemList}
use Rattle.cojp.specs.declared.octets.Octets.{Octets}
use Rattle.node_parameters.specs.declared.address.HeldAddress.{HeldAddress}
use Rattle.node_parameters.specs.declared.blacklist.HeldList.{HeldList}
use Rattle.node_parameters.specs.declared.octets.HeldOctets.{HeldOctets}
use Rattle.node_parameters.specs.declared.rate.HeldRate.{HeldRate}
use Rattle.object_image.specs.Address.{short_address_part}
use Rattle.object_image.specs.Codes.{bool_part}
use Rattle.object_image.specs.Lists.{list_part}
use Rattle.object_image.specs.Octets.{octets_part}

-- ---- byte strings
abbrev pub held_octets_to : Bool × Octets → HeldOctets
held_octets_to x = record { held = x.0; value = x.1 }

abbrev pub held_octets_from : HeldOctets → Bool × Octets
held_octets_from h = (h.held, h.value)

abbrev pub held_octets_part : Part HeldOctets
held_octets_part = viewed (both bool_part octets_part) held_octets_to held_octets_from

-- ---- the short address
abbrev pub held_address_fields : Part (Bool × (ShortAddress × ℕ))
held_address_fields = both bool_part (both short_address_part (number 8))

abbrev pub held_address_to : Bool × (ShortAddress × ℕ) → HeldAddress
held_address_to x = record { held = x.0; value = x.1.0; received = x.1.1 }

abbrev pub held_address_from : HeldAddress → Bool × (ShortAddress × ℕ)
held_address_from h = (h.held, (h.value, h.received))

abbrev pub held_address_part : Part HeldAddress
held_address_part = viewed held_address_fields held_address_to held_address_from

-- ---- the blacklist
abbrev pub held_list_to : Bool × ItemList → HeldList
held_list_to x = record { held = x.0; value = x.1 }

abbrev pub held_list_from : HeldList → Bool × ItemList
held_list_from h = (h.held, h.value)

abbrev pub held_list_part : Part HeldList
held_list_part = viewed (both bool_part list_part) held_list_to held_list_from

-- ---- the join rate
abbrev pub held_rate_to : Bool × ℕ → HeldRate
held_rate_to x = record { held = x.0; value = x.1 }

abbrev pub held_rate_from : HeldRate → Bool × ℕ
held_rate_from h = (h.held, h.value)

abbrev pub held_rate_part : Part HeldRate
held_rate_part = viewed (both bool_part (number 8)) held_rate_to held_rate_from
