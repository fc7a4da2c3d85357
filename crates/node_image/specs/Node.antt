-- The image of a node, 878 bytes: kind N, layout, role 1, join attempt 26, active set 249, pending set 249, short address 20,
-- JRC address 18, network identifier 18, prefix 18, form 1, blacklist 256, join rate 9, faults 11.
use Rattle.std.specs.Prelude.{ℕ}
use Rattle.image.specs.Part.{Part, byte, both, viewed, headed}
use Rattle.cojp.specs.declared.error_report.ErrorReports.{ErrorReports}
use Rattle.protocol_version.specs.declared.Version.{Version}
use Rattle.key_image.specs.Key.{counted_set_part}
use Rattle.link_key_counters.specs.declared.CountedSet.{CountedSet}
use Rattle.node.specs.declared.node.Node.{Node}
use Rattle.node_attempt.specs.declared.attempt.Attempt.{Attempt}
use Rattle.node_key_sets.specs.Sets.{two_sets}
use Rattle.node_key_sets.specs.declared.sets.KeySets.{KeySets}
use Rattle.node_parameters.specs.declared.address.HeldAddress.{HeldAddress}
use Rattle.node_parameters.specs.declared.blacklist.HeldList.{HeldList}
use Rattle.node_parameters.specs.declared.octets.HeldOctets.{HeldOctets}
use Rattle.node_parameters.specs.declared.rate.HeldRate.{HeldRate}
use Rattle.object_image.specs.ErrorReports.{error_reports_part}
use Rattle.node_image.specs.Attempt.{attempt_part}
use Rattle.node_image.specs.Held.{held_octets_part, held_address_part, held_list_part, held_rate_part}
use Rattle.node_image.specs.Version.{version_part}

-- ---- the two key sets, 498 bytes
abbrev pub sets_to : CountedSet × CountedSet → KeySets
sets_to x = two_sets x.0 x.1

abbrev pub sets_from : KeySets → CountedSet × CountedSet
sets_from s = (s.active, s.pending)

abbrev pub sets_part : Part KeySets
sets_part = viewed (both counted_set_part counted_set_part) sets_to sets_from

-- ---- form, blacklist, join rate and faults, 277 bytes
abbrev pub FormFields : Type 0
FormFields = Version × (HeldList × (HeldRate × ErrorReports))

abbrev pub form_fields : Part FormFields
form_fields = both version_part (both held_list_part (both held_rate_part error_reports_part))

-- ---- short address, JRC address, network identifier, prefix, and those, 351 bytes
abbrev pub HeldFields : Type 0
HeldFields = HeldAddress × (HeldOctets × (HeldOctets × (HeldOctets × FormFields)))

abbrev pub held_fields : Part HeldFields
held_fields = both held_address_part (both held_octets_part (both held_octets_part (both held_octets_part form_fields)))

-- ---- the node
abbrev pub NodeFields : Type 0
NodeFields = ℕ × (Attempt × (KeySets × HeldFields))

abbrev pub node_fields : Part NodeFields
node_fields = both byte (both attempt_part (both sets_part held_fields))

abbrev pub node_of : ℕ → Attempt → KeySets → HeldFields → Node
node_of role attempt sets x = record {
  role = role;
  attempt = attempt;
  sets = sets;
  address = x.0;
  jrc = x.1.0;
  network = x.1.1.0;
  prefix = x.1.1.1.0;
  version = x.1.1.1.1.0;
  blacklist = x.1.1.1.1.1.0;
  rate = x.1.1.1.1.1.1.0;
  errors = x.1.1.1.1.1.1.1;
}

abbrev pub node_to : NodeFields → Node
node_to x = node_of x.0 x.1.0 x.1.1.0 x.1.1.1

abbrev pub form_of : Node → FormFields
form_of n = (n.version, (n.blacklist, (n.rate, n.errors)))

abbrev pub held_of : Node → HeldFields
held_of n = (n.address, (n.jrc, (n.network, (n.prefix, form_of n))))

abbrev pub node_from : Node → NodeFields
node_from n = (n.role, (n.attempt, (n.sets, held_of n)))

abbrev pub node_image : Part Node
node_image = headed 0x4e (viewed node_fields node_to node_from)
