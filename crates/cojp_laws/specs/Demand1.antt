-- Demand 1 for the writers: a refusal returns its number and length 0, and leaves every lent byte as it was.
use Rattle.std.specs.Prelude.{ℕ, ◌≡◌, Bool, not, List, [], ◌∷◌, ltb, length, Err}
use Rattle.refusal.specs.Order.{refused_if, in_order}
use Rattle.refusal.specs.Refusal.{number_of}
use Rattle.refusal.specs.declared.Refusal.{Refusal}
use Rattle.byte_io.specs.Write.{Plan, answer, after, written_says}
use Rattle.cbor.specs.Answer.{head_plan}
use Rattle.cbor.specs.Encode.{shortest, encode, encode_pairs}
use Rattle.cbor.specs.Item.{map_item}
use Rattle.cojp.specs.Request.{owing}
use Rattle.cojp.specs.Writing.{octets_pairs, request_pairs, request_in_range, request_plan}
use Rattle.cojp.specs.Writing.{configuration_pairs, configuration_in_range, configuration_plan}
use Rattle.cojp.specs.declared.configuration.Configuration.{Configuration}
use Rattle.cojp.specs.declared.list.ListParameter.{ListParameter}
use Rattle.cojp.specs.declared.octets.OctetsParameter.{OctetsParameter}
use Rattle.cojp.specs.declared.request.JoinRequest.{JoinRequest}
use Rattle.protocol_version.specs.declared.Version.{Version}
use Rattle.cojp_write.specs.octets.Plan.{string_in_range, octets_plan, list_bytes, list_fits, list_parameter_plan}

-- the number that is answered to a plan, the destination holding d
abbrev pub number_said : Plan → List ℕ → ℕ
number_said plan d = (written_says (answer plan d)).0

-- the destination is shorter than the bytes
abbrev pub no_room : List ℕ → List ℕ → Bool
no_room p d = ltb (length d) (length p)

-- a payload has at most 256 bytes
abbrev pub too_long : List ℕ → Bool
too_long p = ltb 256 (length p)

pub record Refusing (plan : Plan) (d : List ℕ) (k : Refusal) : Type 0 where
  pub says : written_says (answer plan d) ≡ (number_of k, 0)
  pub holds : after plan d ≡ d

pub record WritersDemand1 : Type 0 where
  -- whatever a writer is asked for
  pub refusing : (plan : Plan) (d : List ℕ) (k : Refusal) → answer plan d ≡ Err k → Refusing plan d k
  -- ---- the numbers, in the order of the tests: RANGE 13, also of an object that would take more than 256 bytes, OWED 9, ROOM 12
  pub head-number :
      (major n : ℕ) (d : List ℕ) →
      number_said (head_plan major n) d ≡ in_order (refused_if (ltb 7 major) 13 ∷ refused_if (no_room (shortest major n) d) 12 ∷ [])
  pub string-number :
      (label : ℕ) (p : OctetsParameter) (d : List ℕ) →
      number_said (octets_plan label p) d
      ≡ in_order (refused_if (not (string_in_range label p)) 13 ∷ refused_if (no_room (encode_pairs (octets_pairs label p)) d) 12 ∷ [])
  pub list-number :
      (label : ℕ) (p : ListParameter) (d : List ℕ) →
      number_said (list_parameter_plan label p) d
      ≡ in_order (refused_if (not (list_fits p)) 13 ∷ refused_if (no_room (list_bytes label p) d) 12 ∷ [])
  pub request-number :
      (v : Version) (q : JoinRequest) (d : List ℕ) →
      number_said (request_plan v q) d
      ≡ in_order
      (refused_if (not (request_in_range v q)) 13
      ∷ refused_if (too_long (encode (map_item (request_pairs q)))) 13
      ∷ refused_if (owing v q.role q.network.disposition) 9
      ∷ refused_if (no_room (encode (map_item (request_pairs q))) d) 12
      ∷ [])
  pub configuration-number :
      (v : Version) (c : Configuration) (d : List ℕ) →
      number_said (configuration_plan v c) d
      ≡ in_order
      (refused_if (not (configuration_in_range v c)) 13
      ∷ refused_if (too_long (encode (map_item (configuration_pairs c)))) 13
      ∷ refused_if (no_room (encode (map_item (configuration_pairs c))) d) 12
      ∷ [])
