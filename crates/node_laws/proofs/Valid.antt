-- What it says that a node is valid, part by part, and back.
use mathlib.Core.Path.{◌≡◌}
use mathlib.Core.Bool.{Bool, true, ◌||◌}
use Rattle.protocol_version.specs.Version.{allows_additional_info}
use Rattle.node_key_sets.specs.Sets as sets
use Rattle.node_key_sets.specs.Sets.{plain_in}
use Rattle.node_key_sets.proofs.Valid.{as-valid, as_plain, as_by}
use Rattle.node_attempt.specs.Attempt as attempt
use Rattle.node_parameters.specs.Lease.{valid_address}
use Rattle.node.specs.Node.{is_border, clock_of}
use Rattle.node.specs.Range.{others_valid, valid, Valid}
use Rattle.node.specs.declared.node.Node.{Node}
use Rattle.lemmas.specs.logic.Tests.{first, second, third, fourth, all-four}

module _ (n : Node) where
  abbrev keys : Bool
  keys = sets.valid_as (allows_additional_info n.version) (is_border n) n.sets

  abbrev attempted : Bool
  attempted = attempt.valid n.attempt

  abbrev addressed : Bool
  addressed = valid_address (clock_of n) n.address

  -- the keys are those of the node's form
  abbrev pub Plain : Type 0
  Plain = (allows_additional_info n.version || plain_in n.sets) ≡ true

  module _ (v : Valid n) where
    form-valid : keys ≡ true
    unfolding valid
    form-valid = first keys attempted addressed (others_valid n) v

    pub keys-valid : sets.valid (is_border n) n.sets ≡ true
    keys-valid = as-valid (allows_additional_info n.version) (is_border n) n.sets form-valid

    pub keys-plain : Plain
    keys-plain = as_plain (allows_additional_info n.version) (is_border n) n.sets form-valid

    pub attempt-valid : attempt.valid n.attempt ≡ true
    unfolding valid
    attempt-valid = second keys attempted addressed (others_valid n) v

    pub address-valid : valid_address (clock_of n) n.address ≡ true
    unfolding valid
    address-valid = third keys attempted addressed (others_valid n) v

    pub others-valid : others_valid n ≡ true
    unfolding valid
    others-valid = fourth keys attempted addressed (others_valid n) v

  pub valid-by :
      sets.valid (is_border n) n.sets ≡ true → Plain → attempt.valid n.attempt ≡ true → valid_address (clock_of n) n.address ≡ true →
      others_valid n ≡ true → Valid n
  unfolding valid
  valid-by k p a h o =
      all-four keys attempted addressed (others_valid n) (as_by (allows_additional_info n.version) (is_border n) n.sets k p) a h o
