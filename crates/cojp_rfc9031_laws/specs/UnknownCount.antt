-- How many labels were passed over, in either form: each pair of the outermost map whose label is not known, a negative one included.
use Rattle.std.specs.Prelude.{ℕ, ◌+◌, ◌≡◌, Bool, false, cond, List, [], ◌∷◌, Ok}
use Rattle.cbor.specs.Item.{Pairs, empty, pair}
use Rattle.cbor.specs.Strict.{head_by}
use Rattle.cbor.specs.View.{label_of}
use Rattle.cbor.specs.declared.value.Label.{Label}
use Rattle.cbor.specs.declared.value.Label.TheVariants as label
use Rattle.cojp.specs.Configuration.{read_configuration_by}
use Rattle.cojp.specs.Request.{read_request_by}
use Rattle.protocol_version.specs.Version.{by_version}
use Rattle.protocol_version.specs.declared.Version.{Version}
use Rattle.protocol_version.specs.declared.Version.TheVariants.{Draft, Published}
use Rattle.cojp_rfc9031_laws.specs.Labels.{configuration_labels, request_labels, is_in, pairs_in}

-- the draft's: key set, short address, JRC address, network identifier and prefix
abbrev pub configuration_known : Version → List ℕ
configuration_known v = by_version v (2 ∷ 3 ∷ 4 ∷ 5 ∷ 6 ∷ []) configuration_labels

-- the draft's: role and network identifier
abbrev pub request_known : Version → List ℕ
request_known v = by_version v (1 ∷ 5 ∷ []) request_labels

module _ (known : List ℕ) where
  abbrev pub is_known : Label → Bool
  is_known label.NoInteger = false
  is_known label.Negative = false
  is_known (label.Number n) = is_in n known

  abbrev pub unknown_in : Pairs → ℕ
  unknown_in empty = 0
  unknown_in (pair k v ps) = cond (is_known (label_of k)) (unknown_in ps) (unknown_in ps + 1)

-- ---- what the readers count
abbrev pub passed_in_configuration : Version → Bool → List ℕ → ℕ
passed_in_configuration v strict p = (read_configuration_by v (head_by strict) p).configuration.unknown

abbrev pub passed_in_request : Version → Bool → List ℕ → ℕ
passed_in_request v strict p = (read_request_by v (head_by strict) p).request.unknown

pub record UnknownCount : Type 0 where
  pub configuration :
      (v : Version) (strict : Bool) (p : List ℕ) → (read_configuration_by v (head_by strict) p).verdict ≡ Ok tt →
      passed_in_configuration v strict p ≡ unknown_in (configuration_known v) (pairs_in strict p)
  pub request :
      (v : Version) (strict : Bool) (p : List ℕ) → (read_request_by v (head_by strict) p).verdict ≡ Ok tt →
      passed_in_request v strict p ≡ unknown_in (request_known v) (pairs_in strict p)
  -- a negative label, a network identifier, a join rate, and reports: of these a configuration knows the rate alone
  pub three-passed :
      passed_in_configuration Published false (0xA4 ∷ 0x20 ∷ 0x00 ∷ 0x05 ∷ 0x40 ∷ 0x07 ∷ 0x00 ∷ 0x08 ∷ 0x80 ∷ []) ≡ 3
  -- a join rate is known in the published form, and not in the draft
  pub none_passed : passed_in_configuration Published false (0xA1 ∷ 0x07 ∷ 0x00 ∷ []) ≡ 0
  pub draft-passed : passed_in_configuration Draft false (0xA1 ∷ 0x07 ∷ 0x00 ∷ []) ≡ 1
  -- a request with a key set
  pub one-passed : passed_in_request Published false (0xA2 ∷ 0x05 ∷ 0x41 ∷ 0x00 ∷ 0x02 ∷ 0x80 ∷ []) ≡ 1
