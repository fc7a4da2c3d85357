-- Joining two updates (document 02, request 10), which is the draft's alone: at one time, where a node accepts the first and then the
-- second, it accepts the merged one, which leaves the same node. Only a joined node that may be handed in accepts an update. Outside this
-- law are reports and passed-over counts, which are no part of the node; a border router's frame counters, since a key that it held, that
-- the first has not and the second has, begins at 0 again after the two; a join answer, whose OWED may differ; and pairs of which one is
-- refused: the merged one may then be accepted all the same (Example).
use Rattle.std.specs.Prelude.{ℕ, ◌≤◌, ◌≡◌, true, false, List, length, Ok}
use Rattle.byte_io.specs.Write.{emit}
use Rattle.cbor.specs.Encode.{encode}
use Rattle.cbor.specs.Item.{map_item}
use Rattle.cojp.specs.Configuration.{read_configuration}
use Rattle.cojp.specs.Writing.{missing, configuration_pairs, configuration_plan}
use Rattle.cojp.specs.declared.configuration.Configuration.{Configuration}
use Rattle.protocol_version.specs.declared.Version.TheVariants.{Draft}
use Rattle.cojp_merge.specs.Merge.{merged, merge_answer}
use Rattle.link_key_counters.specs.Counters.{with_zero_counters}
use Rattle.node_attempt.specs.declared.delivery.Delivery.TheVariants.{Update}
use Rattle.node_key_sets.specs.Sets.{two_sets}
use Rattle.node.specs.Delivery.{apply, deliver}
use Rattle.node.specs.Node.{is_border, keyed}
use Rattle.node.specs.declared.node.Node.{Node}

-- ---- the same node
-- the node with all counters at 0
abbrev pub uncounted : Node → Node
uncounted n = keyed n (two_sets (with_zero_counters n.sets.active.set) (with_zero_counters n.sets.pending.set))

-- two nodes that were made of n: equal in every field, the places that are never looked at among them;
-- of a border router but for its counters
pub record TheSame (n one two : Node) : Type 0 where
  pub but-counters : uncounted one ≡ uncounted two
  pub ordinary : is_border n ≡ false → one ≡ two

-- ---- configurations
-- of the draft: no blacklist, no join rate, and no label noted
pub record OfDraft (c : Configuration) : Type 0 where
  pub blacklist : missing c.blacklist.disposition ≡ true
  pub rate : missing c.rate.disposition ≡ true
  pub met : c.labels.count ≡ 0

pub record AppliedAsOne (n : Node) (time : ℕ) (first second : Configuration) : Type 0 where
  pub accepted : (apply Update n time (merged first second)).verdict ≡ Ok tt
  pub node : TheSame n (apply Update n time (merged first second)).node (apply Update (apply Update n time first).node time second).node

abbrev pub MergedApplies : Type 0
MergedApplies =
    (n : Node) (time : ℕ) (first second : Configuration) → OfDraft first → OfDraft second → (apply Update n time first).verdict ≡ Ok tt →
    (apply Update (apply Update n time first).node time second).verdict ≡ Ok tt → AppliedAsOne n time first second

-- ---- payloads at a node of the draft: any two, and the one that is written of the merged configuration, in at most 232 bytes
abbrev pub merged_payload : Configuration → Configuration → List ℕ
merged_payload first second = encode (map_item (configuration_pairs (merged first second)))

pub record DeliveredAsOne (n : Node) (time : ℕ) (p q : List ℕ) (first second : Configuration) : Type 0 where
  pub merges : (merge_answer first second).verdict ≡ Ok tt
  pub writes : configuration_plan Draft (merge_answer first second).configuration ≡ emit (merged_payload first second)
  pub short : length (merged_payload first second) ≤ 232
  pub accepted : (deliver Update n time (merged_payload first second)).verdict ≡ Ok tt
  pub node :
      TheSame n (deliver Update n time (merged_payload first second)).node
      (deliver Update (deliver Update n time p).node time q).node

abbrev pub MergedDelivers : Configuration → Configuration → Type 0
MergedDelivers first second =
    (n : Node) (time : ℕ) (p q : List ℕ) → n.version ≡ Draft →
    (read_configuration p).configuration ≡ first → (read_configuration q).configuration ≡ second →
    (deliver Update n time p).verdict ≡ Ok tt → (deliver Update (deliver Update n time p).node time q).verdict ≡ Ok tt →
    DeliveredAsOne n time p q first second
