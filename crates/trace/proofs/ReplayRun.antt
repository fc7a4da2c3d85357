-- The replay of the six records is computed, record by record.
use mathlib.Core.Path.{refl}
use lib.Dec.{lit<}
use Rattle.byte_io.specs.BigEndian.{digits, bytes_of}
use Rattle.lemmas.specs.lists.Same.{same}
use Rattle.link_key.specs.Key.{valid_key, has_no_additional_info, same_key, same_secret, covers}
use Rattle.link_key.specs.set.KeySet.{valid_keys, valid_set}
use Rattle.link_key_counters.specs.Counters.{take_counter, inherit_counters}
use Rattle.cbor.specs.Decode.{payload_by, decode_by, heading, argument, next, members, pairs, major_of}
use Rattle.cbor.specs.Encode.{info_of, extra_of, shortest}
use Rattle.cojp.specs.Octets.{padded, octets_judged}
use Rattle.cojp.specs.Address.{address_in}
use Rattle.cojp.specs.KeySet.{groups, identified, used, valued}
use Rattle.cojp.specs.Request.{owing}
use Rattle.cojp.specs.Walk.{payload_read_by}
use Rattle.cojp.specs.Parameter.{later_parameter, parameter_of}
use Rattle.cojp.specs.Configuration.{configuration_taking}
use Rattle.cojp.specs.ErrorReports.{valid_error_reports, error_reports_valid, added}
use Rattle.cojp.specs.Reported.{error_reports_of}
use Rattle.cojp.specs.Writing.{request_in_range, request_plan}
use Rattle.cojp_list.specs.Listed.{listed_in}
use Rattle.node_key_sets.specs.Sets as sets
use Rattle.node_key_sets.specs.Sets.{install}
use Rattle.node_key_sets.specs.Frames.{receiving_key, verified_in}
use Rattle.node_attempt.specs.Attempt as attempt
use Rattle.node_attempt.specs.Attempt.{may_start}
use Rattle.node_attempt.specs.Poll as polling
use Rattle.node_attempt.specs.Poll.{stepped}
use Rattle.node_attempt.specs.delivery.Delivery.{may_come}
use Rattle.node_parameters.specs.Dispositions.{dispositions_of}
use Rattle.node.specs.Node.{made}
use Rattle.node.specs.Range.{version_valid, valid}
use Rattle.node.specs.Timing.{request_of, start_verdict, start_plan, start, poll}
use Rattle.node.specs.Delivery.{fitted, configured, apply, deliver_verdict, deliver}
use Rattle.node.specs.Frames.{receive, verified}
use Rattle.trace_record.specs.Layout as layout
use Rattle.trace_record.specs.Layout.{number, blank, delivery, fields, entry}
use Rattle.trace.specs.Calls.{call_of}
use Rattle.trace.specs.Replay.{replay}
use Rattle.trace.specs.ReplayExact.{ReplayExact}
use Rattle.trace.specs.ReplayExample.{stopped, ReplayExample}
use Rattle.trace.specs.Statistics.{statistics_of}
use Rattle.trace.specs.Trace.{reading, parse_from, parse}

pub six-replayed : ReplayExact → ReplayExample
unfolding payload_by decode_by heading argument next digits members pairs major_of bytes_of info_of extra_of shortest
    valid_key has_no_additional_info same_key same covers valid_keys valid_set
    padded octets_judged address_in groups identified used valued owing payload_read_by
    later_parameter parameter_of configuration_taking valid_error_reports error_reports_valid added error_reports_of listed_in
    request_in_range request_plan
    take_counter same_secret inherit_counters sets.valid sets.valid_as install receiving_key verified_in attempt.valid may_start
    stepped polling.poll
    made version_valid valid request_of start_verdict start_plan start poll dispositions_of fitted configured apply may_come deliver_verdict
    deliver
    receive verified
    number blank layout.new_node delivery layout.verified fields entry
    call_of statistics_of reading parse_from parse replay
six-replayed exact = record {
  complete = refl;
  end = refl;
  node = record { made = refl; phase = refl; clock = refl; active = refl; pending = refl; statistics = refl };
  stops = refl;
  begins = refl;
  as_before = record { made = refl; phase = refl; clock = refl; active = refl; pending = refl; statistics = refl };
  no_node = refl;
  none_made = refl;
  empty-node = refl;
  walked = exact stopped (lit< tt);
}
