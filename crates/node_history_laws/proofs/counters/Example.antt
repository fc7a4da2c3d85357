-- The calls are computed, and the law is applied to their answers.
use mathlib.Core.Path.{◌≡◌, refl}
use mathlib.Core.Bool.{true}
use mathlib.Core.List.Memᴰ.{head as at}
use mathlib.Core.List.Memᴰ.{tail as past}
use mathlib.Core.List.{[], ◌∷◌}
use Rattle.lemmas.specs.lists.Same.{same as same_bytes}
use Rattle.link_key.specs.Key.{valid_key, has_no_additional_info, same_key, same_secret, covers}
use Rattle.link_key.specs.set.KeySet.{valid_keys, valid_set}
use Rattle.link_key_counters.specs.Counters.{take_counter, inherit_counters}
use Rattle.byte_io.specs.BigEndian.{digits, bytes_of}
use Rattle.cbor.specs.Decode.{payload_by, decode_by, heading, argument, next, members, pairs, major_of}
use Rattle.cbor.specs.Encode.{info_of, extra_of, shortest}
use Rattle.cojp.specs.Octets.{padded, octets_judged}
use Rattle.cojp.specs.Address.{address_in}
use Rattle.cojp.specs.KeySet.{groups, identified, used, valued}
use Rattle.cojp.specs.Request.{owing}
use Rattle.cojp.specs.Walk.{payload_read_by}
use Rattle.cojp.specs.Parameter.{later_parameter, parameter_of}
use Rattle.cojp.specs.Configuration.{configuration_taking}
use Rattle.cojp.specs.ErrorReports.{error_reports_valid}
use Rattle.cojp.specs.Reported.{error_reports_of}
use Rattle.cojp.specs.Writing.{request_in_range, request_plan}
use Rattle.protocol_version.specs.declared.Version.TheVariants.{Draft}
use Rattle.cojp_list.specs.Listed.{listed_in}
use Rattle.node_key_sets.specs.Sets as sets
use Rattle.node_key_sets.specs.Sets.{install}
use Rattle.node_key_sets.specs.Frames as frames
use Rattle.node_attempt.specs.Attempt as attempt
use Rattle.node_attempt.specs.Attempt.{may_start}
use Rattle.node_parameters.specs.Dispositions.{dispositions_of}
use Rattle.node.specs.Node.{made}
use Rattle.node.specs.Range.{version_valid, valid}
use Rattle.node.specs.Timing.{request_of, start_verdict, start_plan, start}
use Rattle.node.specs.Delivery.{fitted, configured, apply, deliver_verdict, deliver}
use Rattle.node.specs.Frames as node
use Rattle.node.specs.Frames.{send, send_counter, after_send}
use Rattle.node_laws.specs.Calls.{perform}
use Rattle.node_attempt.specs.delivery.Delivery.{may_come}
use Rattle.node_history_laws.specs.counters.Reserved.{sendings, CountersReserved}
use Rattle.node_history_laws.specs.counters.Rising.{after, Answers, Stays, CountersRise}
use Rattle.node_history_laws.specs.counters.Example.{cafe, key, joining, joined, sent, kept, left, CountersExample}

-- what computing unfolds: items, keys, objects and the node's calls
computing : Unit {0}
unfolding payload_by decode_by heading argument next digits members pairs major_of bytes_of info_of extra_of shortest
    valid_key has_no_additional_info same_key same_bytes same_secret covers valid_keys valid_set take_counter inherit_counters
    padded octets_judged address_in groups identified used valued owing payload_read_by
    later_parameter parameter_of configuration_taking error_reports_valid error_reports_of listed_in request_in_range request_plan
    sets.valid sets.valid_as install frames.sending attempt.valid may_start
    made version_valid valid request_of start_verdict start_plan start dispositions_of fitted configured apply may_come deliver_verdict
    deliver node.sending send send_counter after_send perform
computing = tt

first : Answers joined 1 key 0
unfolding computing
first = record { accepted = refl; object = refl }

stays : Stays key sent kept
unfolding computing
stays = (record { key = key; member = at refl; same = refl }, record { key = key; member = past (at refl); same = refl })

second : Answers (after sent kept) 1 key 1
unfolding computing
second = record { accepted = refl; object = refl }

again : Answers (after sent left) 1 key 0
unfolding computing
again = record { accepted = refl; object = refl }

same : same_secret key key ≡ true
unfolding computing
same = refl

third : Answers (after joined (sendings (1 ∷ 1 ∷ []))) 1 key 2
unfolding computing
third = record { accepted = refl; object = refl }

held : Stays key (after joined (sendings (1 ∷ 1 ∷ 1 ∷ []))) []
unfolding computing
held = record { key = key; member = at refl; same = refl }

from-copy : Answers (after joined (sendings (1 ∷ 1 ∷ 1 ∷ []))) 1 key 3
unfolding computing
from-copy = record { accepted = refl; object = refl }

pub witness : CountersRise → CountersReserved → CountersExample
witness law reserved = record {
  first = first;
  stays = stays;
  second = second;
  higher = law.rises Draft 1 cafe joining 1 key 0 first kept stays 1 key 1 second same;
  third = third;
  from-copy = from-copy;
  apart = reserved.higher Draft 1 cafe joining (1 ∷ 1 ∷ []) 1 [] key 2 third [] held 1 key 3 from-copy same;
  again = again;
}
