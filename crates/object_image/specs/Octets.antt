-- Byte strings of at most 16 bytes, 17 bytes: length 1, bytes 16. As a parameter, 18 bytes: its report stands in front.
use Rattle.std.specs.Prelude.{ℕ, List}
use Rattle.image.specs.Part.{Part, number, octets, both, viewed}
use Rattle.cojp.specs.declared.octets.Octets.{Octets}
use Rattle.cojp.specs.declared.octets.OctetsParameter.{OctetsParameter}
use Rattle.cojp.specs.declared.disposition.Disposition.{Disposition}
use Rattle.object_image.specs.Codes.{disposition_part}

abbrev pub octets_to : ℕ × List ℕ → Octets
octets_to x = record { len = x.0; bytes = x.1 }

abbrev pub octets_from : Octets → ℕ × List ℕ
octets_from o = (o.len, o.bytes)

abbrev pub octets_part : Part Octets
octets_part = viewed (both (number 1) (octets 16)) octets_to octets_from

abbrev pub octets_parameter_to : Disposition × Octets → OctetsParameter
octets_parameter_to x = record { disposition = x.0; value = x.1 }

abbrev pub octets_parameter_from : OctetsParameter → Disposition × Octets
octets_parameter_from p = (p.disposition, p.value)

abbrev pub octets_parameter_part : Part OctetsParameter
octets_parameter_part = viewed (both disposition_part octets_part) octets_parameter_to octets_parameter_from
