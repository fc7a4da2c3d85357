-- The law at these calls; what the node's own calls answer is computed.
use Prim.Native.Nat.{ℕ}
use mathlib.Core.List.{List, [], ◌∷◌}
use mathlib.Core.Path.{◌≡◌, refl, ap, ◌∙◌, subst}
use native.Mathlib.Omega.{arith}
use lib.ListN.{take, drop, replicate}
use Rattle.lemmas.specs.lists.Same.{same}
use Rattle.link_key.specs.Key.{valid_key, has_no_additional_info, same_key, same_secret, covers}
use Rattle.link_key.specs.set.KeySet.{valid_keys, valid_set}
use Rattle.link_key_counters.specs.Counters.{take_counter, inherit_counters}
use Rattle.short_address.specs.Address.{is_address}
use Rattle.byte_io.specs.BigEndian.{digits, bytes_of}
use Rattle.cbor.specs.Decode.{payload_by, decode_by, heading, argument, next, members, pairs, major_of}
use Rattle.cbor.specs.Encode.{info_of, extra_of, shortest}
use Rattle.cojp.specs.Octets.{padded, octets_judged}
use Rattle.cojp.specs.Address.{address_in}
use Rattle.cojp.specs.KeySet.{groups, identified, used, valued}
use Rattle.cojp.specs.Request.{owing}
use Rattle.cojp.specs.Walk.{payload_read_by}
use Rattle.cojp.specs.Parameter.{later_parameter, parameter_of}
use Rattle.cojp.specs.Configuration.{configuration_taking}
use Rattle.cojp.specs.ErrorReports.{error_reports_valid}
use Rattle.cojp.specs.Reported.{error_reports_of}
use Rattle.cojp.specs.Writing.{request_in_range, request_plan}
use Rattle.cojp_list.specs.Listed.{listed_in}
use Rattle.node_key_sets.specs.Sets as sets
use Rattle.node_key_sets.specs.Sets.{install}
use Rattle.node_key_sets.specs.Frames as frames
use Rattle.node_attempt.specs.Attempt as attempt
use Rattle.node_attempt.specs.Attempt.{may_start}
use Rattle.node_attempt.specs.Poll as poll
use Rattle.node_parameters.specs.Lease.{holds_at}
use Rattle.node_parameters.specs.Dispositions.{dispositions_of}
use Rattle.node_attempt.specs.delivery.Delivery.{may_come}
use Rattle.node_attempt.specs.declared.delivery.Delivery.TheVariants.{JoinAnswer}
use Rattle.node.specs.Node.{made}
use Rattle.node.specs.Range.{version_valid, valid}
use Rattle.node.specs.Timing as timing
use Rattle.node.specs.Timing.{request_of, start_verdict, start_plan, start, start_after}
use Rattle.node.specs.Delivery.{fitted, configured, apply, deliver_verdict, deliver}
use Rattle.node.specs.Lease.{holds}
use Rattle.node.specs.Frames as node
use Rattle.node.specs.Frames.{send, send_counter, after_send, receive, verified}
use Rattle.node_laws.specs.Calls.{delivering, perform}
use Rattle.node_call_laws.specs.Fits.{Callable}
use Rattle.pothatch_laws.specs.NodeExample.{network, configuration, calls, answered, NodeExample}
use Rattle.pothatch_laws.specs.Node.{NodeOutput, Did, no_node, tells, after, shown, NodeRuns}
use Rattle.pothatch_laws.specs.Runs.{Runs, after_all, answers, As}
use Rattle.pothatch_laws.proofs.ByteLists.{bytes-by}
use Rattle.pothatch_laws.proofs.NodeAnswers.{Can, one}
use Rattle.pothatch_laws.proofs.Running.{AllCan, ran}

can : AllCan Did Can calls
can =
    let joins : Callable (delivering JoinAnswer 6000 configuration) = (omega arith, bytes-by configuration refl) in (
      bytes-by [] refl,
      (omega arith, (bytes-by network refl, ((omega arith, omega arith), (omega arith, (joins, omega arith))))),
    )

-- what computing unfolds: items, keys, objects and the node's calls
computing : Unit {0}
unfolding payload_by decode_by heading argument next digits members pairs major_of bytes_of info_of extra_of shortest
    valid_key has_no_additional_info same_key same same_secret covers valid_keys valid_set take_counter inherit_counters is_address
    padded octets_judged address_in groups identified used valued owing payload_read_by
    later_parameter parameter_of configuration_taking error_reports_valid error_reports_of listed_in request_in_range request_plan
    sets.valid sets.valid_as install frames.sending frames.receiving_key frames.verified_in attempt.valid may_start poll.stepped poll.poll
    holds_at made version_valid valid request_of start_verdict start_plan start start_after timing.poll dispositions_of fitted
    configured apply may_come
    deliver_verdict deliver holds node.sending send send_counter after_send receive verified perform
computing = tt

told-so : answers tells after calls no_node ≡ answered
unfolding computing
told-so = refl

-- the image afterwards
abbrev kept : List ℕ
kept = shown (after_all after calls no_node)

counted : take 4 (drop 246 kept) ≡ 0 ∷ 0 ∷ 0 ∷ 2 ∷ []
unfolding computing
counted = refl

addressed : take 3 (drop 527 kept) ≡ 1 ∷ 0xFF ∷ 0xFD ∷ []
unfolding computing
addressed = refl

pub board-seen : NodeRuns → NodeExample
board-seen law =
    let zeros : List ℕ = replicate 878 0 in
    let r = ran Did Can one calls zeros can in
    let s : As tells after shown calls no_node r.told r.left =
    law.from-make 0 2 0 [] _ no_node zeros r.told r.left refl r.runs in
    record {
      image = r.left;
      runs = subst (λ (ts : List NodeOutput). Runs Did calls zeros ts r.left) (s.answered ∙ told-so) r.runs;
      counter = ap (λ (x : List ℕ). take 4 (drop 246 x)) s.left ∙ counted;
      address = ap (λ (x : List ℕ). take 3 (drop 527 x)) s.left ∙ addressed;
    }
