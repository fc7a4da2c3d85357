-- The calls from C that write the object in an image to a destination.
use Rattle.std.specs.Prelude.{ℕ, Bool, cond, ◌&&◌, List, ◌≡◌}
use Rattle.refusal.specs.declared.Refusal.TheVariants.{Range}
use Rattle.byte_io.specs.Write.{Plan, refuse, answer, after, written_says}
use Rattle.cojp.specs.Writing.{request_plan, configuration_plan}
use Rattle.image.specs.Part.{is_image}
use Rattle.object_image.specs.Configuration.{configuration_image}
use Rattle.object_image.specs.Request.{request_image}
use Rattle.payload_calls.specs.Asked.{is_version, version_of}

-- the plan was followed: the number r, the destination d before and d' afterwards, and the length n
pub record Writes (plan : Plan) (d : List ℕ) (r : ℕ) (d' : List ℕ) (n : ℕ) : Type 0 where
  pub number : r ≡ (written_says (answer plan d)).0
  pub dst : d' ≡ after plan d
  pub long : n ≡ (written_says (answer plan d)).1

-- RANGE comes first where there is no such form, or what was lent is no image
abbrev pub range_first : Bool → Plan → Plan
range_first right plan = cond right plan (refuse Range)

abbrev pub request_writing : ℕ → List ℕ → Plan
request_writing form s = range_first (is_version form && is_image request_image s) (request_plan (version_of form) (request_image.get s))

abbrev pub configuration_writing : ℕ → List ℕ → Plan
configuration_writing form s =
    range_first (is_version form && is_image configuration_image s) (configuration_plan (version_of form) (configuration_image.get s))
