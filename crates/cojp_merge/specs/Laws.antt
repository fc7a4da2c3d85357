-- What is promised of merging. The law on a node stands with the node.
use Rattle.std.specs.Prelude.{ℕ, ◌≡◌, Bool, true, List, [], ◌∷◌, ◌⊎◌, Ok, Err}
use Rattle.std.proofs.Math.Option.{none, some}
use Rattle.refusal.specs.declared.Refusal.{Refusal}
use Rattle.cbor.specs.Strict.{head_by}
use Rattle.cojp.specs.Address.{address_of, address_parameter}
use Rattle.cojp.specs.Configuration.{empty_configuration, read_configuration_by, read_configuration_as, read_configuration}
use Rattle.cojp.specs.Reading.{if_taken}
use Rattle.cojp.specs.Same.{SameConfiguration}
use Rattle.cojp.specs.declared.configuration.Configuration.{Configuration}
use Rattle.cojp.specs.declared.disposition.Disposition.TheVariants.{Taken}
use Rattle.protocol_version.specs.declared.Version.TheVariants.{Published}
use Rattle.cojp_merge.specs.Merge.{merged, of_draft, outside_limits, merge_answer}

-- ---- three configurations come to the same in either bracket, reports included
abbrev pub Associative : Type 0
Associative =
    (a b c : Configuration) → (merge_answer a b).verdict ≡ Ok tt → (merge_answer b c).verdict ≡ Ok tt →
    merge_answer (merge_answer a b).configuration c ≡ merge_answer a (merge_answer b c).configuration

-- ---- the empty configuration changes no taken parameter, on either side
abbrev pub NeutralFirst : Type 0
NeutralFirst =
    (c : Configuration) → (merge_answer empty_configuration c).verdict ≡ Ok tt →
    SameConfiguration (merge_answer empty_configuration c).configuration c

abbrev pub NeutralSecond : Type 0
NeutralSecond =
    (c : Configuration) → (merge_answer c empty_configuration).verdict ≡ Ok tt →
    SameConfiguration (merge_answer c empty_configuration).configuration c

-- ---- whoever merges two of the draft gets one of the draft, so it can be written or merged again; a refusal comes with the empty one
abbrev pub StaysInRange : Type 0
StaysInRange =
    (a b : Configuration) → of_draft a ≡ true → of_draft b ≡ true →
    ((merge_answer a b).verdict ≡ Ok tt) × (of_draft (merge_answer a b).configuration ≡ true)

abbrev pub RefusedEmpty : Type 0
RefusedEmpty =
    (a b : Configuration) (k : Refusal) → (merge_answer a b).verdict ≡ Err k → (merge_answer a b).configuration ≡ empty_configuration

-- ---- what is taken is equal, also in the places that are not looked at
pub record TakesEqual (c d : Configuration) : Type 0 where
  pub keys : if_taken c.keys.disposition (some c.keys.value) none ≡ if_taken d.keys.disposition (some d.keys.value) none
  pub address : if_taken c.address.disposition (some c.address.value) none
      ≡ if_taken d.address.disposition (some d.address.value) none
  pub jrc : if_taken c.jrc.disposition (some c.jrc.value) none ≡ if_taken d.jrc.disposition (some d.jrc.value) none
  pub network : if_taken c.network.disposition (some c.network.value) none
      ≡ if_taken d.network.disposition (some d.network.value) none
  pub prefix : if_taken c.prefix.disposition (some c.prefix.value) none
      ≡ if_taken d.prefix.disposition (some d.prefix.value) none
  pub blacklist : if_taken c.blacklist.disposition (some c.blacklist.value) none
      ≡ if_taken d.blacklist.disposition (some d.blacklist.value) none
  pub rate : if_taken c.rate.disposition (some c.rate.value) none ≡ if_taken d.rate.disposition (some d.rate.value) none

-- ---- readings leave nothing in those places: a payload w that says what two others say, merged, reads as exactly that
abbrev pub ReadsExactly : Type 0
ReadsExactly =
    (p q w : List ℕ) →
    SameConfiguration (read_configuration w).configuration
    (merged (read_configuration p).configuration (read_configuration q).configuration) →
    TakesEqual (read_configuration w).configuration (merged (read_configuration p).configuration (read_configuration q).configuration)

pub record MergeLaws : Type 0 where
  pub associative : Associative
  pub neutral-first : NeutralFirst
  pub neutral-second : NeutralSecond
  pub in-range : StaysInRange
  pub refused : RefusedEmpty
  pub exact : ReadsExactly

-- ---- the draft alone
-- what a payload of the published form holds, read strictly or not; beside a refusal the empty configuration
abbrev pub published_in : Bool → List ℕ → Configuration
published_in strict p = (read_configuration_by Published (head_by strict) p).configuration

pub record RangeToMerge (c d : Configuration) : Type 0 where
  pub first : merge_answer c d ≡ outside_limits
  pub second : merge_answer d c ≡ outside_limits

-- address 1234 with lease 1: a second in the draft, an hour in the published form
abbrev pub lease_of_one : List ℕ
lease_of_one = 0xA1 ∷ 0x03 ∷ 0x82 ∷ 0x42 ∷ 0x12 ∷ 0x34 ∷ 0x01 ∷ []

pub record DraftAlone : Type 0 where
  -- what two payloads of the draft hold merges
  pub draft :
      (p q : List ℕ) → (read_configuration p).verdict ≡ Ok tt → (read_configuration q).verdict ≡ Ok tt →
      (merge_answer (read_configuration p).configuration (read_configuration q).configuration).verdict ≡ Ok tt
  -- what one of the published form holds does not, whatever it is merged with, unless nothing is taken from it
  pub published :
      (strict : Bool) (p : List ℕ) (d : Configuration) →
      RangeToMerge (published_in strict p) d ⊎ SameConfiguration (published_in strict p) empty_configuration
  -- computed: a second is merged, an hour is not
  pub second :
      (merge_answer empty_configuration (read_configuration lease_of_one).configuration).configuration.address
      ≡ address_parameter Taken (address_of (0x12 ∷ 0x34 ∷ []) true 1)
  pub hour : merge_answer empty_configuration (read_configuration_as Published lease_of_one).configuration ≡ outside_limits
