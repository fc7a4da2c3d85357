-- What a node makes of a configuration that a join answer or an update brings.
use Rattle.std.specs.Prelude.{ℕ, Bool, true, false, cond, not, ◌&&◌, List, length, Ok, Err}
use Rattle.refusal.specs.declared.Refusal.{Refusal}
use Rattle.refusal.specs.declared.Refusal.TheVariants as refusal
use Rattle.refusal.specs.Verdict.{Verdict}
use Rattle.node_key_sets.specs.Sets.{placed, install}
use Rattle.node_key_sets.specs.declared.sets.KeySets.{KeySets}
use Rattle.node_key_sets.specs.declared.sets.InstallResult.{InstallResult}
use Rattle.node_attempt.specs.delivery.Delivery.{attempt_after, asks_identifier, may_come}
use Rattle.node_attempt.specs.declared.delivery.Delivery.{Delivery}
use Rattle.cojp.specs.Reading.{if_taken}
use Rattle.cojp.specs.Configuration.{with_keys, read_configuration_as}
use Rattle.cojp.specs.KeySet.{no_keys_parameter}
use Rattle.cojp.specs.Reported.{error_reports_of}
use Rattle.protocol_version.specs.Version.{by_version}
use Rattle.cojp.specs.declared.configuration.Configuration.{Configuration}
use Rattle.cojp.specs.declared.configuration.ConfigurationRead.{ConfigurationRead}
use Rattle.cojp.specs.declared.key_set.KeysParameter.{KeysParameter}
use Rattle.cojp.specs.declared.disposition.Disposition.{Disposition}
use Rattle.cojp.specs.declared.disposition.Disposition.TheVariants.{Discarded}
use Rattle.node_parameters.specs.Blacklist.{list_after}
use Rattle.node_parameters.specs.Lease.{address_after}
use Rattle.node_parameters.specs.Octets.{octets_after}
use Rattle.node_parameters.specs.Rate.{rate_after}
use Rattle.node_parameters.specs.Dispositions.{no_dispositions, dispositions_of}
use Rattle.node_parameters.specs.declared.dispositions.Dispositions.{Dispositions}
use Rattle.node.specs.Node.{is_border}
use Rattle.node.specs.Range.{valid}
use Rattle.node.specs.declared.delivery.DeliveryResult.{DeliveryResult}
use Rattle.node.specs.declared.node.Node.{Node}

-- ---- key sets: one that is absent or discarded leaves both
abbrev pub placement_of : Node → KeysParameter → InstallResult
placement_of n p = if_taken p.disposition (install (is_border n) n.sets p.value) (placed n.sets)

-- in the published form a set that cannot be placed is bad: nothing of it is taken, and all else is
abbrev pub fitted_by : Verdict → Configuration → Configuration
fitted_by (Ok tt) c = c
fitted_by (Err k) c = with_keys c (no_keys_parameter Discarded)

unfoldable pub fitted : Node → Configuration → Configuration
fitted n c = by_version n.version c (fitted_by (placement_of n c.keys).verdict c)

-- ---- the node afterwards: a parameter absent or discarded leaves what it holds, and the reports are this configuration's
unfoldable pub configured : Delivery → Node → ℕ → Configuration → KeySets → Dispositions → Node
configured delivery n time c sets reports = record {
  role = n.role;
  attempt = attempt_after delivery n.attempt time;
  sets = sets;
  address = address_after time c.address n.address;
  jrc = octets_after reports.jrc c.jrc.value n.jrc;
  network = octets_after reports.network c.network.value n.network;
  prefix = octets_after reports.prefix c.prefix.value n.prefix;
  version = n.version;
  blacklist = list_after c.blacklist n.blacklist;
  rate = rate_after c.rate n.rate;
  errors = error_reports_of c;
}

-- ---- the answer
abbrev pub undelivered : Refusal → Node → DeliveryResult
undelivered k n = record { verdict = Err k; dispositions = no_dispositions; node = n }

abbrev pub delivered : Dispositions → Node → DeliveryResult
delivered reports n = record { verdict = Ok tt; dispositions = reports; node = n }

-- a border node's join answer owes a network identifier when the request had none and none was taken
abbrev pub owes_identifier : Delivery → Node → Disposition → Bool
owes_identifier delivery n r = (asks_identifier delivery && is_border n && not n.network.held && not (if_taken r true false))

-- the key sets are placed, and all else is changed with them
abbrev pub placed_by : Verdict → Delivery → Node → ℕ → Configuration → KeySets → DeliveryResult
placed_by (Err k) delivery n time c sets = undelivered k n
placed_by (Ok tt) delivery n time c sets =
    delivered (dispositions_of (is_border n) c) (configured delivery n time c sets (dispositions_of (is_border n) c))

-- a configuration is applied: OWED, CLASH (RANGE, where its key set is outside the limits: none that was read is), the change
unfoldable pub apply : Delivery → Node → ℕ → Configuration → DeliveryResult
apply delivery n time c =
    cond (owes_identifier delivery n c.network.disposition)
    (undelivered refusal.Owed n)
    (placed_by (placement_of n c.keys).verdict delivery n time c (placement_of n c.keys).sets)

-- whether a payload of so many bytes may be handed over: RANGE: the node; LONG, CLOCK, PHASE
unfoldable pub deliver_verdict : Delivery → Node → ℕ → ℕ → Verdict
deliver_verdict delivery n time len = cond (valid n) (may_come delivery n.attempt time len) (Err refusal.Range)

-- nothing of a payload that is refused is applied
abbrev pub apply_read : Verdict → Delivery → Node → ℕ → Configuration → DeliveryResult
apply_read (Err k) delivery n time c = undelivered k n
apply_read (Ok tt) delivery n time c = apply delivery n time (fitted n c)

abbrev pub deliver_by : Verdict → Delivery → Node → ℕ → ConfigurationRead → DeliveryResult
deliver_by (Err k) delivery n time r = undelivered k n
deliver_by (Ok tt) delivery n time r = apply_read r.verdict delivery n time r.configuration

-- how the node reads a payload: in its form
abbrev pub read_for : Node → List ℕ → ConfigurationRead
read_for n payload = read_configuration_as n.version payload

-- a payload is handed over: then reading and applying
unfoldable pub deliver : Delivery → Node → ℕ → List ℕ → DeliveryResult
deliver delivery n time payload = deliver_by (deliver_verdict delivery n time (length payload)) delivery n time (read_for n payload)
