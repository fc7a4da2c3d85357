-- What a node applies of a configuration that it read (document 02, request 11): in the published form a key set that clashes counts as
-- malformed, and nothing else of the payload moves; every other configuration is applied as it was read. The key sets are within their
-- limits, as those of every configuration that was read are.
use Rattle.std.specs.Prelude.{◌≡◌, true, false}
use Rattle.cojp.specs.KeySet.{no_keys_parameter}
use Rattle.cojp.specs.Writing.{keys_in_range}
use Rattle.cojp.specs.declared.configuration.Configuration.{Configuration}
use Rattle.cojp.specs.declared.disposition.Disposition.TheVariants.{Discarded}
use Rattle.protocol_version.specs.declared.Version.TheVariants.{Draft, Published}
use Rattle.node.specs.Delivery.{fitted}
use Rattle.node.specs.declared.node.Node.{Node}
use Rattle.node_laws.specs.Answers.{clashes}

-- the configuration d is c with its key set discarded
pub record KeysDiscarded (c d : Configuration) : Type 0 where
  pub keys : d.keys ≡ no_keys_parameter Discarded
  pub address : d.address ≡ c.address
  pub jrc : d.jrc ≡ c.jrc
  pub network : d.network ≡ c.network
  pub prefix : d.prefix ≡ c.prefix
  pub blacklist : d.blacklist ≡ c.blacklist
  pub rate : d.rate ≡ c.rate
  -- the labels that came, in their order: the key set's report has its place among them
  pub met : d.labels ≡ c.labels
  pub passed : d.unknown ≡ c.unknown

pub record ClashLeavesRest : Type 0 where
  pub clashing :
      (n : Node) (c : Configuration) → keys_in_range c.keys ≡ true → n.version ≡ Published → clashes n c.keys ≡ true →
      KeysDiscarded c (fitted n c)
  pub apart : (n : Node) (c : Configuration) → keys_in_range c.keys ≡ true → clashes n c.keys ≡ false → fitted n c ≡ c
  -- in the draft a set that clashes refuses the payload (delivery-number of `AnswersSay`)
  pub draft : (n : Node) (c : Configuration) → n.version ≡ Draft → fitted n c ≡ c
