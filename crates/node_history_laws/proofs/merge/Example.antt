-- The examples are computed.
use mathlib.Core.Path.{refl}
use Rattle.byte_io.specs.BigEndian.{digits, bytes_of}
use Rattle.cbor.specs.Decode.{payload_by, decode_by, heading, argument, next, members, pairs, major_of}
use Rattle.cbor.specs.Encode.{info_of, extra_of, shortest}
use Rattle.short_address.specs.Address.{is_address}
use Rattle.lemmas.specs.lists.Same.{same}
use Rattle.link_key.specs.Key.{valid_key, has_no_additional_info, same_key}
use Rattle.link_key.specs.set.KeySet.{valid_keys, valid_set}
use Rattle.cojp.specs.Address.{address_in}
use Rattle.cojp.specs.Parameter.{later_parameter, parameter_of}
use Rattle.cojp.specs.Configuration.{configuration_taking}
use Rattle.cojp.specs.ErrorReports.{error_reports_valid}
use Rattle.cojp.specs.Reported.{error_reports_of}
use Rattle.cojp.specs.KeySet.{groups, identified, used, valued}
use Rattle.cojp.specs.Octets.{padded, octets_judged}
use Rattle.cojp.specs.Walk.{payload_read_by}
use Rattle.node_attempt.specs.Attempt as attempt
use Rattle.node_attempt.specs.delivery.Delivery.{may_come}
use Rattle.node_key_sets.specs.Sets as sets
use Rattle.node_key_sets.specs.Sets.{install}
use Rattle.node_parameters.specs.Dispositions.{dispositions_of}
use Rattle.node.specs.Delivery.{fitted, apply, configured, deliver, deliver_verdict}
use Rattle.node.specs.Range.{version_valid, valid}
use Rattle.node_history_laws.specs.merge.Example.{AcceptedPair, RefusedPair}

pub accepted-pair : AcceptedPair
unfolding payload_by decode_by heading argument next digits members pairs major_of bytes_of info_of extra_of shortest
    valid_key has_no_additional_info same_key same valid_keys valid_set padded octets_judged is_address address_in groups identified used
    valued payload_read_by
    later_parameter parameter_of configuration_taking error_reports_valid error_reports_of
    sets.valid sets.valid_as install attempt.valid version_valid valid dispositions_of fitted configured apply may_come deliver_verdict
    deliver
accepted-pair = record { first = refl; second = refl; written = refl }

pub refused-pair : RefusedPair
unfolding payload_by decode_by heading argument next digits members pairs major_of bytes_of info_of extra_of shortest
    valid_key has_no_additional_info same_key same valid_keys valid_set padded octets_judged is_address address_in groups identified used
    valued payload_read_by
    later_parameter parameter_of configuration_taking error_reports_valid error_reports_of
    sets.valid sets.valid_as install attempt.valid version_valid valid dispositions_of fitted configured apply may_come deliver_verdict
    deliver
refused-pair = record { first = refl; merged-all-the-same = refl }
