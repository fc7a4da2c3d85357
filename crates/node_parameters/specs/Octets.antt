-- A node's JRC address, network identifier and prefix.
use Rattle.std.specs.Prelude.{Bool, true, false, cond, leb, eqb}
use Rattle.cojp.specs.Octets.{no_octets, octets_parameter, no_octets_parameter}
use Rattle.cojp.specs.Reading.{if_taken}
use Rattle.cojp.specs.declared.octets.Octets.{Octets}
use Rattle.cojp.specs.declared.octets.OctetsParameter.{OctetsParameter}
use Rattle.cojp.specs.declared.disposition.Disposition.{Disposition}
use Rattle.cojp.specs.declared.disposition.Disposition.TheVariants.{Absent, Taken}
use Rattle.node_parameters.specs.declared.octets.HeldOctets.{HeldOctets}

abbrev pub absent_octets : HeldOctets
absent_octets = record { held = false; value = no_octets }

-- with nothing beside it where there is none
abbrev pub known_octets : HeldOctets → HeldOctets
known_octets h = cond h.held h absent_octets

-- a network identifier or prefix has 0 to 16 bytes, a JRC address 16; one that is not held is not judged
abbrev pub valid_octets : HeldOctets → Bool
valid_octets h = cond h.held (leb h.value.len 16) true

abbrev pub valid_jrc : HeldOctets → Bool
valid_jrc h = cond h.held (eqb h.value.len 16) true

-- as a request's parameter
abbrev pub identifier_in : HeldOctets → OctetsParameter
identifier_in h = cond h.held (octets_parameter Taken h.value) (no_octets_parameter Absent)

-- after a configuration, by the node's report of the parameter: one absent or discarded leaves what is held
abbrev pub octets_after : Disposition → Octets → HeldOctets → HeldOctets
octets_after r o old = if_taken r (record { held = true; value = o }) old
