-- Which nodes may be handed in: a node answers RANGE before all else exactly where `valid` is false of it.
use Rattle.std.specs.Prelude.{◌≡◌, Bool, true, not, ◌&&◌}
use Rattle.cojp.specs.ErrorReports.{error_reports_valid}
use Rattle.protocol_version.specs.Version.{by_version, allows_additional_info}
use Rattle.node_key_sets.specs.Sets as sets
use Rattle.node_attempt.specs.Attempt as attempt
use Rattle.node_parameters.specs.Blacklist.{valid_list}
use Rattle.node_parameters.specs.Lease.{valid_address}
use Rattle.node_parameters.specs.Octets.{valid_octets, valid_jrc}
use Rattle.node.specs.Node.{is_border, clock_of, valid_role}
use Rattle.node.specs.declared.node.Node.{Node}

-- what belongs to the other form is absent: a node of the draft has neither blacklist nor join rate
abbrev pub draft_valid : Node → Bool
draft_valid n = (not n.blacklist.held && not n.rate.held && valid_octets n.prefix)

-- one of the published form has no prefix
abbrev pub published_valid : Node → Bool
published_valid n = (not n.prefix.held && valid_list n.blacklist)

unfoldable pub version_valid : Node → Bool
version_valid n = (error_reports_valid n.version n.errors && by_version n.version (draft_valid n) (published_valid n))

-- the fields that stand alone are within their numbers, and they are the form's
abbrev pub others_valid : Node → Bool
others_valid n = (valid_role n.role && valid_jrc n.jrc && valid_octets n.network && version_valid n)

-- the key sets may stand together, the join attempt's times and counter too, the address was received not after the clock
unfoldable pub valid : Node → Bool
valid n =
    (sets.valid_as (allows_additional_info n.version) (is_border n) n.sets && attempt.valid n.attempt
    && valid_address (clock_of n) n.address
    && others_valid n)

abbrev pub Valid : Node → Type 0
Valid n = valid n ≡ true
