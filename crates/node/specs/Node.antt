-- A node: what it holds, and how it is made.
use Rattle.std.specs.Prelude.{ℕ, Bool, cond, List, leb, eqb, Ok, Err}
use Rattle.refusal.specs.declared.Refusal.TheVariants.{Range}
use Rattle.link_key.specs.declared.Key.{Key}
use Rattle.node_key_sets.specs.Sets.{active_in, pending_in, no_sets}
use Rattle.node_key_sets.specs.declared.sets.KeySets.{KeySets}
use Rattle.node_attempt.specs.Attempt.{idle}
use Rattle.node_attempt.specs.declared.attempt.Attempt.{Attempt}
use Rattle.cojp.specs.ErrorReports.{no_error_reports}
use Rattle.protocol_version.specs.declared.Version.{Version}
use Rattle.protocol_version.specs.declared.Version.TheVariants.{Draft}
use Rattle.node_parameters.specs.Blacklist.{absent_list}
use Rattle.node_parameters.specs.Lease.{absent_address}
use Rattle.node_parameters.specs.Octets.{absent_octets, known_octets, valid_octets}
use Rattle.node_parameters.specs.Rate.{absent_rate}
use Rattle.node_parameters.specs.declared.octets.HeldOctets.{HeldOctets}
use Rattle.node.specs.declared.node.AttemptLimits.{AttemptLimits}
use Rattle.node.specs.declared.node.MakeResult.{MakeResult}
use Rattle.node.specs.declared.node.Node.{Node}

-- the keys of the two sets, in order; no keys are no set
abbrev pub active_of : Node → List Key
active_of n = active_in n.sets

abbrev pub pending_of : Node → List Key
pending_of n = pending_in n.sets

-- role 1; role 0 is an ordinary node
abbrev pub is_border : Node → Bool
is_border n = eqb n.role 1

-- the last accepted time
abbrev pub clock_of : Node → ℕ
clock_of n = n.attempt.clock

-- "First timeout 10,000 to 15,000 ms; at most 4 retransmissions"
abbrev pub attempt_limits : AttemptLimits
attempt_limits = record { least = 10000; most = 15000; retransmissions = 4 }

-- ---- how a node is made: idle, of a form, with its role and perhaps a network identifier, all else absent or 0
abbrev pub fresh_node : Version → ℕ → HeldOctets → Node
fresh_node version role network = record {
  role = role;
  attempt = idle;
  sets = no_sets;
  address = absent_address;
  jrc = absent_octets;
  network = network;
  prefix = absent_octets;
  version = version;
  blacklist = absent_list;
  rate = absent_rate;
  errors = no_error_reports;
}

abbrev pub empty_node : Node
empty_node = fresh_node Draft 0 absent_octets

-- a role is 0 or 1
abbrev pub valid_role : ℕ → Bool
valid_role role = leb role 1

-- the answer: RANGE for the role or the network identifier, and the empty node, which is one of the draft, beside it
abbrev pub unmade : MakeResult
unmade = record { verdict = Err Range; node = empty_node }

unfoldable pub made : Version → ℕ → HeldOctets → MakeResult
made version role network =
    cond (valid_role role)
    (cond (valid_octets network)
    (record { verdict = Ok tt; node = fresh_node version role (known_octets network) })
    unmade)
    unmade

-- ---- a node with a part of it changed: its join attempt, its key sets
module _ (n : Node) where
  abbrev pub attempting : Attempt → Node
  attempting a = record {
    role = n.role;
    attempt = a;
    sets = n.sets;
    address = n.address;
    jrc = n.jrc;
    network = n.network;
    prefix = n.prefix;
    version = n.version;
    blacklist = n.blacklist;
    rate = n.rate;
    errors = n.errors;
  }

  abbrev pub keyed : KeySets → Node
  keyed s = record {
    role = n.role;
    attempt = n.attempt;
    sets = s;
    address = n.address;
    jrc = n.jrc;
    network = n.network;
    prefix = n.prefix;
    version = n.version;
    blacklist = n.blacklist;
    rate = n.rate;
    errors = n.errors;
  }
