-- Every call leaves a node that fits its image with one that does: what it changes of it fits, and all else stays. What it answers with
-- stood in the node or was read.
use Rattle.std.specs.Prelude.{Result, Ok, Err}
use Prim.Native.Nat.{ℕ, ◌^◌, ◌<◌}
use mathlib.Core.Bool.{Bool, true, false}
use mathlib.Core.List.{List}
use native.Mathlib.Omega.{arith}
use lib.ListN.{length}
use Rattle.refusal.specs.declared.Refusal.{Refusal}
use Rattle.refusal.specs.declared.Refusal.TheVariants as refusal
use Rattle.refusal.specs.Verdict.{Verdict}
use Rattle.byte_io.specs.Write.{answer}
use Rattle.cojp.specs.Configuration.{with_keys}
use Rattle.cojp.specs.ErrorReports.{no_error_reports, error_report_list}
use Rattle.cojp.specs.KeySet.{no_keys_parameter}
use Rattle.cojp.specs.Reported.{error_reports_of}
use Rattle.protocol_version.specs.Version.{by_version}
use Rattle.cojp.specs.declared.configuration.Configuration.{Configuration}
use Rattle.cojp.specs.declared.configuration.ConfigurationRead.{ConfigurationRead}
use Rattle.cojp.specs.declared.disposition.Disposition.TheVariants.{Discarded}
use Rattle.protocol_version.specs.declared.Version.{Version}
use Rattle.protocol_version.specs.declared.Version.TheVariants.{Draft, Published}
use Rattle.link_key.specs.Key.{no_key}
use Rattle.link_key.specs.usage.Usage.{known_type}
use Rattle.link_key_counters.specs.Counters.{take_counter}
use Rattle.link_key.specs.set.KeyLaws.{KeyLaws}
use Rattle.link_key.specs.set.KeySet.{has}
use Rattle.node.specs.Delivery.{placement_of, fitted_by, fitted, configured, undelivered, owes_identifier}
use Rattle.node.specs.Delivery.{placed_by, apply, deliver_verdict, apply_read, deliver_by, read_for, deliver}
use Rattle.node.specs.Frames as frames
use Rattle.node.specs.Lease.{holds}
use Rattle.node.specs.Node.{is_border, attempting, keyed}
use Rattle.node.specs.Range.{valid}
use Rattle.node.specs.Timing.{start_plan, started_from, started_by, start, poll}
use Rattle.node.specs.declared.delivery.DeliveryResult.{DeliveryResult}
use Rattle.node.specs.declared.frames.VerifyResult.{VerifyResult}
use Rattle.node.specs.declared.frames.SendResult.{SendResult}
use Rattle.node.specs.declared.lease.LeaseStatus.{LeaseStatus}
use Rattle.node.specs.declared.lease.LeaseStatus.TheVariants as holding
use Rattle.node.specs.declared.node.Node.{Node}
use Rattle.node.specs.declared.timing.PollResult.{PollResult}
use Rattle.node_attempt.specs.Attempt.{waiting_from}
use Rattle.node_attempt.specs.Poll as attempt
use Rattle.node_attempt.specs.declared.attempt.Attempt.{Attempt}
use Rattle.node_attempt.specs.declared.attempt.Phase.TheVariants as phase
use Rattle.node_attempt.specs.declared.poll.Due.{Due}
use Rattle.node_attempt.specs.declared.poll.Due.TheVariants as due
use Rattle.node_attempt.specs.delivery.Delivery.{phase_after}
use Rattle.node_attempt.specs.declared.delivery.Delivery.{Delivery}
use Rattle.node_image.specs.Answers.{dispositions_image, frame_key_image}
use Rattle.node_image.specs.Attempt.{attempt_part}
use Rattle.node_image.specs.Held.{held_octets_part, held_address_part, held_list_part, held_rate_part}
use Rattle.node_image.specs.Node.{sets_part, node_image}
use Rattle.node_key_sets.specs.Frames as sets
use Rattle.node_key_sets.specs.Frames.{effect_by, receiving_key, verified_in}
use Rattle.node_key_sets.specs.Sets.{active_in}
use Rattle.node_key_sets.specs.declared.frames.Change.{Change}
use Rattle.node_key_sets.specs.declared.frames.Change.TheVariants as change
use Rattle.node_key_sets.specs.declared.frames.KeyAnswer.{KeyAnswer}
use Rattle.node_key_sets.specs.declared.frames.SendKeyResult.{SendKeyResult}
use Rattle.node_key_sets.specs.declared.sets.KeySets.{KeySets}
use Rattle.node_key_sets.specs.declared.sets.InstallResult.{InstallResult}
use Rattle.node_laws.specs.Calls.{NodeCall, starting, polling, delivering, asking, sending, receiving}
use Rattle.node_laws.specs.Calls.{reporting, due_object, holding_object, change_object, Performed, perform}
use Rattle.node_parameters.specs.Dispositions.{no_dispositions, dispositions_of}
use Rattle.node_parameters.specs.declared.dispositions.Dispositions.{Dispositions}
use Rattle.object_image.specs.Configuration.{configuration_image}
use Rattle.object_image.specs.ErrorReports.{error_report_part}
use Rattle.node_call_laws.specs.Fits.{Time, Callable, AnswerFits}
use Rattle.node_call_laws.proofs.Lists.{by_cond, each-taken}
use Rattle.node_call_laws.proofs.Configurations.{configuration-fits}
use Rattle.node_call_laws.proofs.Values.{by-report, bool-fits, report-fits, no-key-fits, no-keys-fit, none-counted-fits, spend-fits}
use Rattle.node_call_laws.proofs.Values.{spend-key, receiving-key, install-fits, attempt-fits, poll-fits, no-faults-fit, reports-fit}

abbrev NodeFits : Node → Type 0
NodeFits n = node_image.Fit n

-- ---- a node with another join attempt, or other key sets
attempting-fits : (n : Node) (a : Attempt) → NodeFits n → attempt_part.Fit a → NodeFits (attempting n a)
attempting-fits n a f h = (f.0, (h, f.1.1))

keyed-fits : (n : Node) (s : KeySets) → NodeFits n → sets_part.Fit s → NodeFits (keyed n s)
keyed-fits n s f h = (f.0, (f.1.0, (h, f.1.1.1)))

-- ---- starting and polling
started-fits : (w : Result ℕ Refusal) (n m : Node) → NodeFits n → NodeFits m → NodeFits (started_by w n m).node
started-fits (Err k) n m f g = f
started-fits (Ok l) n m f g = g

start_fits : (n : Node) (time timeout : ℕ) (d : List ℕ) → Time time → Time timeout → NodeFits n → NodeFits (start n time timeout d).node
unfolding start
start_fits n time timeout d t u f =
    started-fits (answer (start_plan n time timeout) d) n (started_from n time timeout) f
    (attempting-fits n (waiting_from time timeout) f (attempt-fits phase.Waiting t t u (omega arith)))

node-poll-fits : (n : Node) (time : ℕ) → Time time → NodeFits n → NodeFits (poll n time).node
unfolding poll
node-poll-fits n time t f =
    by_cond (λ (p : PollResult). NodeFits p.node) (valid n)
    (λ _. attempting-fits n (attempt.poll n.attempt time).attempt f (poll-fits n.attempt time t f.1.0))
    (λ _. f)

-- ---- frames: the key sets and the node, and the key and counter that are answered
abbrev SendingFits : SendKeyResult → Type 0
SendingFits x = sets_part.Fit x.sets × frame_key_image.Fit (x.answer.key, x.counter)

no-frame-key : frame_key_image.Fit (no_key, 0)
no-frame-key = (no-key-fits, omega arith)

sending-fits : (s : KeySets) (type : ℕ) → sets_part.Fit s → SendingFits (sets.sending s type)
unfolding sets.sending
sending-fits s type f =
    by_cond SendingFits (known_type type)
    (λ _. by_cond SendingFits (take_counter type s.active).found
    (λ _. ((spend-fits type s.active f.0, f.1), spend-key type s.active f.0))
    (λ _. (f, no-frame-key)))
    (λ _. (f, no-frame-key))

abbrev SentFits : SendResult → Type 0
SentFits x = NodeFits x.node × frame_key_image.Fit (x.answer.key, x.counter)

send-fits : (n : Node) (type : ℕ) → NodeFits n → SentFits (frames.sending n type)
unfolding frames.sending
send-fits n type f =
    let sent = sending-fits n.sets type f.1.1.0 in
    by_cond SentFits (valid n) (λ _. (keyed-fits n (sets.sending n.sets type).sets f sent.0, sent.1)) (λ _. (f, no-frame-key))

receive-fits : (n : Node) (type identifier : ℕ) → NodeFits n → frame_key_image.Fit ((frames.receive n type identifier).key, 0)
unfolding frames.receive
receive-fits n type identifier f =
    by_cond (λ (a : KeyAnswer). frame_key_image.Fit (a.key, 0)) (valid n)
    (λ _. (receiving-key n.sets type identifier f.1.1.0, omega arith))
    (λ _. no-frame-key)

effect-fits : (v : Verdict) (active : Bool) (s : KeySets) → sets_part.Fit s → sets_part.Fit (effect_by v active s).sets
effect-fits (Err k) active s f = f
effect-fits (Ok tt) true s f = f
effect-fits (Ok tt) false s f = (f.1, none-counted-fits)

report-node-fits : (n : Node) (type identifier : ℕ) → NodeFits n → NodeFits (frames.verified n type identifier).node
unfolding frames.verified verified_in
report-node-fits n type identifier f =
    by_cond (λ (x : VerifyResult). NodeFits x.node) (valid n)
    (λ _. keyed-fits n (verified_in n.sets type identifier).sets f
    (effect-fits (receiving_key n.sets type identifier).verdict (has identifier (active_in n.sets)) n.sets f.1.1.0))
    (λ _. f)

-- ---- a configuration
-- its reports have one code each
reports-so : (r : Dispositions) → r.unknown < 256 ^ 8 → dispositions_image.Fit r
reports-so r h = (
  report-fits r.keys,
  (
    report-fits r.address,
    (
      report-fits r.jrc,
      (
        report-fits r.network,
        (report-fits r.prefix, (report-fits r.blacklist, (report-fits r.rate, h))),
      ),
    ),
  ),
)

abbrev ConfigurationFits : Configuration → Type 0
ConfigurationFits c = configuration_image.Fit c

without-keys : (c : Configuration) → ConfigurationFits c → ConfigurationFits (with_keys c (no_keys_parameter Discarded))
without-keys c f = (((report-fits Discarded, no-keys-fit), f.0.1), f.1)

fitted-by : (v : Verdict) (c : Configuration) → ConfigurationFits c → ConfigurationFits (fitted_by v c)
fitted-by (Ok tt) c f = f
fitted-by (Err k) c f = without-keys c f

fitted-fits : (v : Version) (c d : Configuration) → ConfigurationFits c → ConfigurationFits d → ConfigurationFits (by_version v c d)
fitted-fits Draft c d f g = f
fitted-fits Published c d f g = g

placement-fits : (n : Node) (c : Configuration) → NodeFits n → ConfigurationFits c → sets_part.Fit (placement_of n c.keys).sets
placement-fits n c f g =
    by-report (λ (p : InstallResult). sets_part.Fit p.sets) c.keys.disposition
    (install-fits (is_border n) n.sets c.keys.value f.1.1.0 g.0.0.1)
    f.1.1.0

configured-fits : (d : Delivery) (n : Node) (time : ℕ) (c : Configuration) (s : KeySets) (r : Dispositions) → Time time → NodeFits n
    → ConfigurationFits c → sets_part.Fit s → NodeFits (configured d n time c s r)
unfolding configured error_reports_of
configured-fits d n time c s r t f g h =
    let a = f.1.0 in
    let held = f.1.1.1 in
    let early = g.0.1 in
    let late = g.1 in (
      f.0,
      (
        attempt-fits (phase_after d n.attempt.phase) t a.1.1.0 a.1.1.1.0 a.1.1.1.1,
        (
          h,
          (
            by-report held_address_part.Fit c.address.disposition (bool-fits true, (early.0.1, t)) held.0,
            (
              by-report held_octets_part.Fit r.jrc (bool-fits true, early.1.0.1) held.1.0,
              (
                by-report held_octets_part.Fit r.network (bool-fits true, early.1.1.0.1) held.1.1.0,
                (
                  by-report held_octets_part.Fit r.prefix (bool-fits true, early.1.1.1.1) held.1.1.1.0,
                  (
                    held.1.1.1.1.0,
                    (
                      by-report held_list_part.Fit c.blacklist.disposition (bool-fits true, late.0.1) held.1.1.1.1.1.0,
                      (
                        by-report held_rate_part.Fit c.rate.disposition (bool-fits true, late.1.0.1) held.1.1.1.1.1.1.0,
                        reports-fit c no_error_reports (error_report_list c.labels)
                            (each-taken error_report_part c.labels.count 5 c.labels.reports late.1.1.0.1) no-faults-fit,
                      ),
                    ),
                  ),
                ),
              ),
            ),
          ),
        ),
      ),
    )

-- and the reports on it
abbrev DeliveredFits : DeliveryResult → Type 0
DeliveredFits x = NodeFits x.node × dispositions_image.Fit x.dispositions

undelivered-fits : (k : Refusal) (n : Node) → NodeFits n → DeliveredFits (undelivered k n)
undelivered-fits k n f = (f, reports-so no_dispositions (omega arith))

placed-fits : (v : Verdict) (d : Delivery) (n : Node) (time : ℕ) (c : Configuration) (s : KeySets) → Time time → NodeFits n
    → ConfigurationFits c
    → sets_part.Fit s → DeliveredFits (placed_by v d n time c s)
unfolding dispositions_of
placed-fits (Err k) d n time c s t f g h = undelivered-fits k n f
placed-fits (Ok tt) d n time c s t f g h =
    let r = dispositions_of (is_border n) c in (configured-fits d n time c s r t f g h, reports-so r g.1.1.1.1)

apply-fits : (d : Delivery) (n : Node) (time : ℕ) (c : Configuration) → Time time → NodeFits n → ConfigurationFits c
    → DeliveredFits (apply d n time c)
unfolding apply
apply-fits d n time c t f g =
    by_cond DeliveredFits (owes_identifier d n c.network.disposition)
    (λ _. undelivered-fits refusal.Owed n f)
    (λ _. placed-fits (placement_of n c.keys).verdict d n time c (placement_of n c.keys).sets t f g (placement-fits n c f g))

read_fits : (v : Verdict) (d : Delivery) (n : Node) (time : ℕ) (c : Configuration) → Time time → NodeFits n → ConfigurationFits c
    → DeliveredFits (apply_read v d n time c)
unfolding fitted
read_fits (Err k) d n time c t f g = undelivered-fits k n f
read_fits (Ok tt) d n time c t f g =
    apply-fits d n time (fitted n c) t f
    (fitted-fits n.version c (fitted_by (placement_of n c.keys).verdict c) g (fitted-by (placement_of n c.keys).verdict c g))

deliver-by : (v : Verdict) (d : Delivery) (n : Node) (time : ℕ) (r : ConfigurationRead) → Time time → NodeFits n
    → ConfigurationFits r.configuration → DeliveredFits (deliver_by v d n time r)
deliver-by (Err k) d n time r t f g = undelivered-fits k n f
deliver-by (Ok tt) d n time r t f g = read_fits r.verdict d n time r.configuration t f g

deliver-fits : (d : Delivery) (n : Node) (time : ℕ) (payload : List ℕ) → Time time → ConfigurationFits (read_for n payload).configuration
    → NodeFits n
    → DeliveredFits (deliver d n time payload)
unfolding deliver
deliver-fits d n time payload t r f = deliver-by (deliver_verdict d n time (length payload)) d n time (read_for n payload) t f r

-- ---- answers that are no struct
due-fits : (d : Result Due Refusal) → AnswerFits (due_object d)
due-fits (Err k) = tt
due-fits (Ok due.NotYet) = tt
due-fits (Ok due.SendAgain) = tt
due-fits (Ok due.GaveUp) = tt

holding-fits : (h : Result LeaseStatus Refusal) → AnswerFits (holding_object h)
holding-fits (Err k) = tt
holding-fits (Ok holding.Valid) = tt
holding-fits (Ok holding.Expired) = tt

change-fits : (c : Result Change Refusal) → AnswerFits (change_object c)
change-fits (Err k) = tt
change-fits (Ok change.Switched) = tt
change-fits (Ok change.Kept) = tt

-- ---- every call: the node after it, and what it answers
abbrev PerformedFits : Performed → Type 0
PerformedFits p = NodeFits p.node × AnswerFits p.object

module _ (laws : KeyLaws) where
  pub performed-fits : (c : NodeCall) (n : Node) → Callable c → NodeFits n → PerformedFits (perform c n)
  unfolding perform frames.send frames.send_counter frames.after_send
  performed-fits (starting time timeout d) n h f = (start_fits n time timeout d h.0 h.1 f, tt)
  performed-fits (polling time) n h f = (node-poll-fits n time h f, due-fits (poll n time).due)
  performed-fits (delivering d time payload) n h f =
      deliver-fits d n time payload h.0 (configuration-fits laws n.version false payload h.1) f
  performed-fits (asking time) n h f = (f, holding-fits (holds n time))
  performed-fits (sending type) n h f = send-fits n type f
  performed-fits (receiving type identifier) n h f = (f, receive-fits n type identifier f)
  performed-fits (reporting type identifier) n h f =
      (report-node-fits n type identifier f, change-fits (frames.verified n type identifier).change)
