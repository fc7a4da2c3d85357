-- What was read can be written, in at most as many bytes: shortest heads, and what is omitted, only shrink it.
use Rattle.std.specs.Prelude.{ℕ, ◌≤◌, ◌≡◌, Bool, false, List, [], ◌∷◌, length, Ok}
use Rattle.byte_io.specs.Write.{Plan, emit}
use Rattle.cbor.specs.Laws.{Bytes}
use Rattle.cbor.specs.Strict.{head_by}
use Rattle.cojp.specs.Configuration.{read_configuration_by}
use Rattle.cojp.specs.Request.{read_request_by}
use Rattle.cojp.specs.Writing.{request_plan, configuration_plan}
use Rattle.protocol_version.specs.declared.Version.{Version}
use Rattle.protocol_version.specs.declared.Version.TheVariants.{Draft}

-- the plan is a payload, no longer than p
pub record WritesWithin (plan : Plan) (p : List ℕ) : Type 0 where
  pub payload : List ℕ
  pub written : plan ≡ emit payload
  pub shorter : length payload ≤ length p

-- either form, read strictly or not; a payload is bytes
pub record WrittenBack : Type 0 where
  pub request :
      (v : Version) (strict : Bool) (p : List ℕ) → Bytes p → (read_request_by v (head_by strict) p).verdict ≡ Ok tt →
      WritesWithin (request_plan v (read_request_by v (head_by strict) p).request) p
  pub configuration :
      (v : Version) (strict : Bool) (p : List ℕ) → Bytes p → (read_configuration_by v (head_by strict) p).verdict ≡ Ok tt →
      WritesWithin (configuration_plan v (read_configuration_by v (head_by strict) p).configuration) p
  -- document 01's M2, whose map has a head of two bytes, is written as M1
  pub example :
      request_plan Draft (read_request_by Draft (head_by false) (0xB8 ∷ 0x01 ∷ 0x05 ∷ 0x42 ∷ 0xCA ∷ 0xFE ∷ [])).request
      ≡ emit (0xA1 ∷ 0x05 ∷ 0x42 ∷ 0xCA ∷ 0xFE ∷ [])
