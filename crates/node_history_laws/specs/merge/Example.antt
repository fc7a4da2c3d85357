-- Two examples at 20,000 ms, on a node that joined with the key of identifier 1. A new key and then an address are accepted: the law speaks
-- of these. A set with another key of identifier 1 is CLASH;
-- merged with the new key it is not there any more, and the merged one is accepted:
-- the law does not speak of such a pair.
use Rattle.std.specs.Prelude.{ℕ, ◌≡◌, List, [], ◌∷◌, ◌++◌, replicate, Ok, Err}
use Rattle.refusal.specs.declared.Refusal.TheVariants.{Clash}
use Rattle.link_key.specs.Key.{key_of}
use Rattle.cojp.specs.Configuration.{read_configuration}
use Rattle.cojp.specs.ErrorReports.{no_error_reports}
use Rattle.cojp.specs.KeySet.{key_set_of}
use Rattle.protocol_version.specs.declared.Version.TheVariants.{Draft}
use Rattle.node_attempt.specs.Attempt.{attempt}
use Rattle.node_attempt.specs.declared.attempt.Phase.TheVariants.{Joined}
use Rattle.node_attempt.specs.declared.delivery.Delivery.TheVariants.{Update}
use Rattle.link_key_counters.specs.Counters.{with_zero_counters, no_counted}
use Rattle.node_key_sets.specs.Sets.{two_sets}
use Rattle.node_parameters.specs.Blacklist.{absent_list}
use Rattle.node_parameters.specs.Lease.{absent_address}
use Rattle.node_parameters.specs.Octets.{absent_octets}
use Rattle.node_parameters.specs.Rate.{absent_rate}
use Rattle.node.specs.Delivery.{deliver}
use Rattle.node.specs.declared.delivery.DeliveryResult.{DeliveryResult}
use Rattle.node.specs.declared.node.Node.{Node}
use Rattle.node_history_laws.specs.merge.Merged.{merged_payload}

abbrev pub joined : Node
joined = record {
  role = 0;
  attempt = attempt Joined 12000 10000 10000 0;
  sets = two_sets (with_zero_counters (key_set_of (key_of 1 0 (replicate 16 0x11) ∷ []))) no_counted;
  address = absent_address;
  jrc = absent_octets;
  network = absent_octets;
  prefix = absent_octets;
  version = Draft;
  blacklist = absent_list;
  rate = absent_rate;
  errors = no_error_reports;
}

abbrev pub updated : Node → List ℕ → DeliveryResult
updated n payload = deliver Update n 20000 payload

-- what is written of two payloads' configurations
abbrev pub joined_payload : List ℕ → List ℕ → List ℕ
joined_payload p q = merged_payload (read_configuration p).configuration (read_configuration q).configuration

-- ---- the payloads
abbrev pub one_key : ℕ → ℕ → List ℕ
one_key identifier byte = 0x02 ∷ 0x82 ∷ identifier ∷ 0x50 ∷ replicate 16 byte

abbrev pub an_address : List ℕ
an_address = 0x03 ∷ 0x81 ∷ 0x42 ∷ 0x12 ∷ 0x34 ∷ []

abbrev pub new_key : List ℕ
new_key = 0xA1 ∷ one_key 2 0x33

abbrev pub clashing : List ℕ
clashing = 0xA1 ∷ one_key 1 0x22

abbrev pub new_address : List ℕ
new_address = 0xA1 ∷ an_address

-- ---- inside and outside
pub record AcceptedPair : Type 0 where
  pub first : (updated joined new_key).verdict ≡ Ok tt
  pub second : (updated (updated joined new_key).node new_address).verdict ≡ Ok tt
  pub written : joined_payload new_key new_address ≡ 0xA2 ∷ (one_key 2 0x33 ++ an_address)

pub record RefusedPair : Type 0 where
  pub first : (updated joined clashing).verdict ≡ Err Clash
  pub merged-all-the-same : (updated joined (joined_payload clashing new_key)).verdict ≡ Ok tt
