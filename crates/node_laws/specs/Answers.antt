-- What the answers of a node's calls say in document 01's numbers and values: each number in 01's order, each value exactly when 01
-- gives it.
use Rattle.refusal.specs.declared.Refusal.{Refusal}
use Rattle.std.specs.Prelude.{ℕ, ◌-◌, ◌≤◌, ◌≡◌, Bool, true, false, not, ◌&&◌, List, [], ◌∷◌, leb, ltb, eqb, length, Result, Ok, Err}
use Rattle.std.proofs.Math.Option.{Option, none, some}
use Rattle.refusal.specs.Refusal.{number_of}
use Rattle.refusal.specs.Verdict.{verdict_number, is_accepted}
use Rattle.refusal.specs.Order.{refused_if, in_order}
use Rattle.link_key.specs.usage.Usage.{known_type}
use Rattle.link_key.specs.Key.{covers}
use Rattle.link_key.specs.declared.Key.{Key}
use Rattle.link_key.specs.set.KeySet.{keys_of, same_keys, shares, has}
use Rattle.link_key_counters.specs.Counters.{Slot, first_serving}
use Rattle.byte_io.specs.Write.{answer}
use Rattle.cbor.specs.Encode.{encode}
use Rattle.cbor.specs.Item.{map_item}
use Rattle.cojp.specs.Reading.{if_taken}
use Rattle.protocol_version.specs.Version.{by_version}
use Rattle.cojp.specs.Request.{owing}
use Rattle.cojp.specs.Writing.{request_plan, request_pairs}
use Rattle.cojp.specs.declared.key_set.KeysParameter.{KeysParameter}
use Rattle.cojp.specs.declared.disposition.Disposition.TheVariants.{Discarded}
use Rattle.protocol_version.specs.declared.Version.{Version}
use Rattle.protocol_version.specs.declared.Version.TheVariants.{Published}
use Rattle.node_key_sets.specs.Frames.{held_key, change_number, has_switched, has_kept}
use Rattle.node_attempt.specs.Attempt.{first_timeout}
use Rattle.node_attempt.specs.Poll.{due_number, not_yet, sends_again, gives_up}
use Rattle.node_attempt.specs.delivery.Delivery.{belongs}
use Rattle.node_attempt.specs.declared.delivery.Delivery.{Delivery}
use Rattle.node_parameters.specs.Lease.{holds_at}
use Rattle.node_parameters.specs.Octets.{valid_octets, identifier_in}
use Rattle.node_parameters.specs.Dispositions.{dispositions_of}
use Rattle.node_parameters.specs.declared.octets.HeldOctets.{HeldOctets}
use Rattle.node.specs.Delivery.{owes_identifier, read_for, deliver}
use Rattle.node.specs.Frames.{send, receive, verified}
use Rattle.node.specs.Lease.{holds, holding_number, holds_now}
use Rattle.node.specs.Node.{active_of, is_border, clock_of, valid_role, made}
use Rattle.node.specs.Range.{valid}
use Rattle.node.specs.Timing.{request_of, start, poll}
use Rattle.node.specs.declared.node.Node.{Node}
use Rattle.node_laws.specs.Calls.{NodeCall, perform}
use Rattle.node_laws.specs.Laws.{configuration_in, Counts}
use Rattle.node_laws.specs.Phases.{waits}

-- ---- the tests in 01's words
-- "the time given is before the last accepted one"
abbrev pub early : Node → ℕ → Bool
early n time = not (leb (clock_of n) time)

-- "the time since the last sending has reached the timeout"
abbrev pub reached : Node → ℕ → Bool
reached n time = leb n.attempt.timeout (time - n.attempt.sent)

-- a poll that is not refused, at which a step is due
abbrev pub is_polled : Node → ℕ → Bool
is_polled n time = (valid n && not (early n time) && waits n)

abbrev pub is_due : Node → ℕ → Bool
is_due n time = (is_polled n time && reached n time)

-- CLASH: at an ordinary node, a set that is not the active one and shares an identifier with it
abbrev pub clashes : Node → KeysParameter → Bool
clashes n p =
    if_taken p.disposition
    (not (is_border n) && not (same_keys (keys_of p.value) (active_of n)) && shares (keys_of p.value) (active_of n))
    false

-- SILENT: no active key that covers the type and is not used up; no such key, or none that covers the type
abbrev pub is_missing : Option Slot → Bool
is_missing none = true
is_missing (some x) = false

abbrev pub is_uncovered : ℕ → Option Key → Bool
is_uncovered type none = true
is_uncovered type (some k) = not (covers k type)

-- the number in a writer's answer
abbrev pub written_number : Result ℕ Refusal → ℕ
written_number (Err k) = number_of k
written_number (Ok l) = 0

pub record AnswersSay : Type 0 where
  -- a node that is not valid answers RANGE (13) to every call
  pub invalid : (c : NodeCall) (n : Node) → valid n ≡ false → verdict_number (perform c n).verdict ≡ 13
  -- ---- the numbers, in the order of the tests: RANGE 13, CLOCK 11, PHASE 16, LONG 15, OWED 9, CLASH 10 (the draft's alone), SILENT 14
  pub made-number :
      (version : Version) (role : ℕ) (network : HeldOctets) →
      verdict_number (made version role network).verdict ≡ refused_if (not (valid_role role && valid_octets network)) 13
  -- then as the request's writer: OWED, ROOM
  pub start-number :
      (n : Node) (time timeout : ℕ) (d : List ℕ) →
      verdict_number (start n time timeout d).verdict
      ≡ in_order
      (refused_if (not (valid n)) 13
      ∷ refused_if (early n time) 11
      ∷ refused_if (waits n) 16
      ∷ refused_if (not (first_timeout timeout)) 13
      ∷ written_number (answer (request_plan n.version (request_of n)) d)
      ∷ [])
  -- a valid node's own request is within its limits and fits a payload, so its writer refuses OWED and ROOM (12) alone
  pub request-number :
      (n : Node) (d : List ℕ) → valid n ≡ true →
      written_number (answer (request_plan n.version (request_of n)) d)
      ≡ in_order
      (refused_if (owing n.version n.role (identifier_in n.network).disposition) 9
      ∷ refused_if (not (leb (length (encode (map_item (request_pairs (request_of n))))) (length d))) 12
      ∷ [])
  pub request-short : (n : Node) → valid n ≡ true → length (encode (map_item (request_pairs (request_of n)))) ≤ 38
  pub poll-number :
      (n : Node) (time : ℕ) →
      due_number (poll n time).due
      ≡ in_order (refused_if (not (valid n)) 13 ∷ refused_if (early n time) 11 ∷ refused_if (not (waits n)) 16 ∷ [])
  pub delivery-number :
      (delivery : Delivery) (n : Node) (time : ℕ) (payload : List ℕ) →
      verdict_number (deliver delivery n time payload).verdict
      ≡ in_order
      (refused_if (not (valid n)) 13
      ∷ refused_if (not (leb (length payload) 256)) 15
      ∷ refused_if (early n time) 11
      ∷ refused_if (not (belongs delivery n.attempt.phase)) 16
      ∷ verdict_number (read_for n payload).verdict
      ∷ refused_if (owes_identifier delivery n (read_for n payload).configuration.network.disposition) 9
      ∷ refused_if (by_version n.version (clashes n (read_for n payload).configuration.keys) false) 10
      ∷ [])
  pub holding-number :
      (n : Node) (time : ℕ) → holding_number (holds n time) ≡ in_order (refused_if (not (valid n)) 13 ∷ refused_if (early n time) 11 ∷ [])
  pub send-number :
      (n : Node) (type : ℕ) →
      verdict_number (send n type).verdict
      ≡ in_order
      (refused_if (not (valid n)) 13
      ∷ refused_if (not (known_type type)) 13
      ∷ refused_if (is_missing (first_serving type n.sets.active)) 14
      ∷ [])
  pub receive-number :
      (n : Node) (type identifier : ℕ) →
      verdict_number (receive n type identifier).verdict
      ≡ in_order
      (refused_if (not (valid n)) 13
      ∷ refused_if (not (known_type type && not (eqb identifier 0))) 13
      ∷ refused_if (is_uncovered type (held_key n.sets identifier)) 14
      ∷ [])
  -- a report is judged as receiving is
  pub report-number :
      (n : Node) (type identifier : ℕ) →
      change_number (verified n type identifier).change ≡ verdict_number (receive n type identifier).verdict
  -- ---- the values
  -- a start wrote what the request's writer answers
  pub start-length :
      (n : Node) (time timeout : ℕ) (d : List ℕ) → (start n time timeout d).verdict ≡ Ok tt →
      answer (request_plan n.version (request_of n)) d ≡ Ok (start n time timeout d).length
  -- "not yet" before the timeout is reached; then "send again" with a counter under 4, "gave up" at 4
  pub not_yet_lem : (n : Node) (time : ℕ) → not_yet (poll n time).due ≡ (is_polled n time && not (reached n time))
  pub sends-again : (n : Node) (time : ℕ) → sends_again (poll n time).due ≡ (is_due n time && ltb n.attempt.count 4)
  pub gives_up_lem : (n : Node) (time : ℕ) → gives_up (poll n time).due ≡ (is_due n time && eqb n.attempt.count 4)
  -- the report of an accepted configuration, in the published form without a set that cannot be placed
  pub delivery-reports :
      (delivery : Delivery) (n : Node) (time : ℕ) (payload : List ℕ) → (deliver delivery n time payload).verdict ≡ Ok tt →
      (deliver delivery n time payload).dispositions ≡ dispositions_of (is_border n) (configuration_in n payload)
  -- in that form a set that clashes is discarded
  pub clash-discarded :
      (delivery : Delivery) (n : Node) (time : ℕ) (payload : List ℕ) → (deliver delivery n time payload).verdict ≡ Ok tt →
      n.version ≡ Published → clashes n (read_for n payload).configuration.keys ≡ true →
      (deliver delivery n time payload).dispositions.keys ≡ Discarded
  -- yes
  pub holds-now : (n : Node) (time : ℕ)
      → holds_now (holds n time) ≡ (valid n && not (early n time) && holds_at n.version n.address time)
  -- the key, and sending's counter: the first active one that covers the type and is not used up; the active or else pending one with
  -- the identifier
  pub send-counts : (n : Node) (type : ℕ) → (send n type).verdict ≡ Ok tt → Counts n type
  pub receive-key :
      (n : Node) (type identifier : ℕ) → (receive n type identifier).verdict ≡ Ok tt →
      held_key n.sets identifier ≡ some (receive n type identifier).key
  -- switched where the key was pending, kept where it was active
  pub has-switched :
      (n : Node) (type identifier : ℕ) →
      has_switched (verified n type identifier).change
      ≡ (is_accepted (receive n type identifier).verdict && not (has identifier (active_of n)))
  pub has_kept_lem :
      (n : Node) (type identifier : ℕ) →
      has_kept (verified n type identifier).change ≡ (is_accepted (receive n type identifier).verdict && has identifier (active_of n))
