-- Arrays that are kept as they are written, 255 bytes: count 1, length 1, bytes 253. As a parameter, 256 bytes: the report stands in front.
use Rattle.std.specs.Prelude.{ℕ, List}
use Rattle.image.specs.Part.{Part, number, octets, both, viewed}
use Rattle.cojp.specs.declared.list.ItemList.{ItemList}
use Rattle.cojp.specs.declared.list.ListParameter.{ListParameter}
use Rattle.cojp.specs.declared.disposition.Disposition.{Disposition}
use Rattle.object_image.specs.Codes.{disposition_part}

abbrev pub list_fields : Part (ℕ × (ℕ × List ℕ))
list_fields = both (number 1) (both (number 1) (octets 253))

abbrev pub list_to : ℕ × (ℕ × List ℕ) → ItemList
list_to x = record { count = x.0; len = x.1.0; bytes = x.1.1 }

abbrev pub list_from : ItemList → ℕ × (ℕ × List ℕ)
list_from l = (l.count, (l.len, l.bytes))

abbrev pub list_part : Part ItemList
list_part = viewed list_fields list_to list_from

abbrev pub list_parameter_to : Disposition × ItemList → ListParameter
list_parameter_to x = record { disposition = x.0; value = x.1 }

abbrev pub list_parameter_from : ListParameter → Disposition × ItemList
list_parameter_from p = (p.disposition, p.value)

abbrev pub list_parameter_part : Part ListParameter
list_parameter_part = viewed (both disposition_part list_part) list_parameter_to list_parameter_from
