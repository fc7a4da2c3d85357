-- The calls from C that read a payload hand back the object as an image.
use Rattle.std.specs.Prelude.{ℕ, List}
use Rattle.cojp.specs.Configuration.{read_configuration_as, read_strict_configuration_as}
use Rattle.cojp.specs.Request.{read_request_as, read_strict_request_as}
use Rattle.cojp.specs.declared.configuration.ConfigurationRead.{ConfigurationRead}
use Rattle.cojp.specs.declared.request.RequestRead.{RequestRead}
use Rattle.image.specs.Effects.{ResultSpec}
use Rattle.object_image.specs.Configuration.{configuration_image}
use Rattle.object_image.specs.Request.{request_image}
use Rattle.payload_calls.specs.Asked.{is_reading, version_of, by_reading}

abbrev pub request_asked : ℕ → ℕ → List ℕ → RequestRead
request_asked form reading p = by_reading reading (read_request_as (version_of form) p) (read_strict_request_as (version_of form) p)

abbrev pub configuration_asked : ℕ → ℕ → List ℕ → ConfigurationRead
configuration_asked form reading p =
    by_reading reading (read_configuration_as (version_of form) p) (read_strict_configuration_as (version_of form) p)

-- the payload p was read: the number r was answered, and the struct s holds s' afterwards
abbrev pub ReadsRequest : ℕ → ℕ → List ℕ → List ℕ → ℕ → List ℕ → Type 0
ReadsRequest form reading p s r s' =
    ResultSpec 296 (is_reading form reading) (request_asked form reading p).verdict
    (request_image.put (request_asked form reading p).request) s r s'

abbrev pub ReadsConfiguration : ℕ → ℕ → List ℕ → List ℕ → ℕ → List ℕ → Type 0
ReadsConfiguration form reading p s r s' =
    ResultSpec 570 (is_reading form reading) (configuration_asked form reading p).verdict
    (configuration_image.put (configuration_asked form reading p).configuration)
    s r s'
