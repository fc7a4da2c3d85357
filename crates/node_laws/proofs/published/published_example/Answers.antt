-- The calls are computed.
use mathlib.Core.Path.{refl}
use Rattle.lemmas.specs.lists.Same.{same}
use Rattle.link_key.specs.Key.{valid_key, has_no_additional_info, same_key, covers}
use Rattle.link_key.specs.set.KeySet.{valid_keys, valid_set}
use Rattle.short_address.specs.Address.{is_address}
use Rattle.byte_io.specs.BigEndian.{digits, bytes_of}
use Rattle.cbor.specs.Decode.{payload_by, decode_by, heading, argument, next, members, pairs, major_of}
use Rattle.cbor.specs.Encode.{info_of, extra_of, shortest}
use Rattle.cbor.specs.View.{scalar_at}
use Rattle.cojp.specs.Octets.{padded}
use Rattle.cojp.specs.Address.{address_in}
use Rattle.cojp.specs.KeySet.{groups, identified, used, valued}
use Rattle.cojp.specs.Lists.{strings_in, same_as, kept}
use Rattle.cojp.specs.Rate.{rate_taken}
use Rattle.cojp.specs.Request.{owing}
use Rattle.cojp.specs.Walk.{payload_read_by}
use Rattle.cojp.specs.Parameter.{later_parameter, parameter_of}
use Rattle.cojp.specs.Configuration.{configuration_taking}
use Rattle.cojp.specs.ErrorReports.{valid_error_reports, error_reports_valid, added}
use Rattle.cojp.specs.Reported.{error_reports_of}
use Rattle.cojp.specs.Writing.{request_in_range, request_plan}
use Rattle.cojp_list.specs.Listed.{listed_in}
use Rattle.node_key_sets.specs.Sets as sets
use Rattle.node_key_sets.specs.Sets.{install}
use Rattle.node_key_sets.specs.Frames.{receiving_key, verified_in}
use Rattle.node_attempt.specs.Attempt as attempt
use Rattle.node_attempt.specs.Attempt.{may_start}
use Rattle.node_attempt.specs.delivery.Delivery.{may_come}
use Rattle.node_parameters.specs.Lease.{holds_at}
use Rattle.node_parameters.specs.Dispositions.{dispositions_of}
use Rattle.node.specs.Delivery.{fitted, configured, apply, deliver_verdict, deliver}
use Rattle.node.specs.Lease.{holds}
use Rattle.node.specs.Node.{made}
use Rattle.node.specs.Range.{version_valid, valid}
use Rattle.node.specs.Frames.{verified}
use Rattle.node.specs.Timing.{request_of, start_verdict, start_plan, start}
use Rattle.node_laws.specs.Published.{PublishedExample}
use Rattle.node_laws.specs.Calls.{perform}
use Rattle.node_laws.proofs.published.published_example.Goals as goal

seen : PublishedExample
unfolding payload_by decode_by heading argument next digits members pairs major_of bytes_of info_of extra_of shortest scalar_at same
    valid_key has_no_additional_info same_key covers valid_keys valid_set is_address padded address_in groups identified used valued owing
    payload_read_by later_parameter parameter_of configuration_taking request_in_range request_plan
    valid_error_reports error_reports_valid added error_reports_of strings_in same_as kept rate_taken listed_in holds_at holds
    sets.valid sets.valid_as install receiving_key verified_in attempt.valid may_start may_come
    dispositions_of fitted configured apply deliver_verdict deliver
    made version_valid valid request_of start_verdict start_plan start verified perform
seen = record {
  before = record { active = refl; pending = refl };
  accepted = refl;
  keys = refl;
  after = record { active = refl; pending = refl };
  reported = refl;
  address = refl;
  blacklist = refl;
  rate = refl;
  lasts = refl;
  ends = refl;
  always = refl;
}

pub returns : goal.returns
returns c = seen
