-- Short addresses, 11 bytes: address 2, whether it is leased 1, lease 8. As a parameter, 12 bytes: its report stands in front.
use Rattle.std.specs.Prelude.{ℕ, Bool, List}
use Rattle.image.specs.Part.{Part, number, octets, both, viewed}
use Rattle.cojp.specs.declared.address.AddressParameter.{AddressParameter}
use Rattle.cojp.specs.declared.address.ShortAddress.{ShortAddress}
use Rattle.cojp.specs.declared.disposition.Disposition.{Disposition}
use Rattle.object_image.specs.Codes.{disposition_part, bool_part}

abbrev pub short_address_fields : Part (List ℕ × (Bool × ℕ))
short_address_fields = both (octets 2) (both bool_part (number 8))

abbrev pub short_address_to : List ℕ × (Bool × ℕ) → ShortAddress
short_address_to x = record { bytes = x.0; leased = x.1.0; lease = x.1.1 }

abbrev pub short_address_from : ShortAddress → List ℕ × (Bool × ℕ)
short_address_from a = (a.bytes, (a.leased, a.lease))

abbrev pub short_address_part : Part ShortAddress
short_address_part = viewed short_address_fields short_address_to short_address_from

abbrev pub address_parameter_to : Disposition × ShortAddress → AddressParameter
address_parameter_to x = record { disposition = x.0; value = x.1 }

abbrev pub address_parameter_from : AddressParameter → Disposition × ShortAddress
address_parameter_from p = (p.disposition, p.value)

abbrev pub address_parameter_part : Part AddressParameter
address_parameter_part = viewed (both disposition_part short_address_part) address_parameter_to address_parameter_from
