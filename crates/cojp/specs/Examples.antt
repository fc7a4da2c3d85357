-- Document 01's marked examples M1 to M13: one list, one statement.
use Rattle.std.specs.Prelude.{ℕ, ◌≡◌, true, List, [], ◌∷◌, replicate}
use Rattle.refusal.specs.declared.Refusal.TheVariants as refusal
use Rattle.cojp.specs.ErrorReports.{no_error_reports}
use Rattle.cojp.specs.Lists.{no_list_parameter}
use Rattle.cojp.specs.Octets.{octets_parameter, no_octets_parameter}
use Rattle.cojp.specs.Address.{address_of, address_parameter, no_address_parameter}
use Rattle.cojp.specs.Request.{read_request, read_request_as, read_strict_request, refuse_request, accept_request}
use Rattle.cojp.specs.Configuration.{empty_configuration, with_address, with_unknown_count, read_configuration}
use Rattle.cojp.specs.Configuration.{read_configuration_as, refuse_configuration, accept_configuration}
use Rattle.cojp.specs.declared.configuration.ConfigurationRead.{ConfigurationRead}
use Rattle.cojp.specs.declared.octets.OctetsParameter.{OctetsParameter}
use Rattle.cojp.specs.declared.disposition.Disposition.TheVariants.{Absent, Taken, Discarded}
use Rattle.cojp.specs.declared.request.RequestRead.{RequestRead}
use Rattle.protocol_version.specs.declared.Version.TheVariants.{Published}

-- a payload and what it must be read as
pub data Example : Type 0 where
  request : List ℕ → RequestRead → Example
  strict_request : List ℕ → RequestRead → Example
  configuration : List ℕ → ConfigurationRead → Example
  published_request : List ℕ → RequestRead → Example
  published_configuration : List ℕ → ConfigurationRead → Example

abbrev pub Shown : Example → Type 0
Shown (request s r) = read_request s ≡ r
Shown (strict_request s r) = read_strict_request s ≡ r
Shown (configuration s r) = read_configuration s ≡ r
Shown (published_request s r) = read_request_as Published s ≡ r
Shown (published_configuration s r) = read_configuration_as Published s ≡ r

abbrev pub AllShown : List Example → Type 0
AllShown [] = Unit {0}
AllShown (e ∷ es) = Shown e × AllShown es

abbrev pub asking : ℕ → OctetsParameter → RequestRead
asking role network = accept_request (record {
  role = role;
  network = network;
  unsupported = no_list_parameter Absent;
  errors = no_error_reports;
  unknown = 0;
})

abbrev pub cafe : OctetsParameter
cafe = octets_parameter Taken (record { len = 2; bytes = 0xCA ∷ 0xFE ∷ replicate 14 0 })

abbrev pub one_passed : ConfigurationRead
one_passed = accept_configuration (with_unknown_count empty_configuration 1)

abbrev pub marked_examples : List Example
marked_examples =
    request (0xA1 ∷ 0x05 ∷ 0x42 ∷ 0xCA ∷ 0xFE ∷ []) (asking 0 cafe)  -- M1
    ∷ request (0xB8 ∷ 0x01 ∷ 0x05 ∷ 0x42 ∷ 0xCA ∷ 0xFE ∷ []) (asking 0 cafe)  -- M2
    ∷ strict_request (0xB8 ∷ 0x01 ∷ 0x05 ∷ 0x42 ∷ 0xCA ∷ 0xFE ∷ []) (refuse_request refusal.Loose)  -- M2, read strictly
    ∷ request (0xA0 ∷ []) (refuse_request refusal.Owed)  -- M3
    ∷ request (0xA1 ∷ 0x01 ∷ 0x01 ∷ []) (asking 1 (no_octets_parameter Absent))  -- M4
    ∷ request (0xA1 ∷ 0x01 ∷ 0x02 ∷ []) (refuse_request refusal.Role)  -- M5
    ∷ request (0xBF ∷ 0x05 ∷ 0x42 ∷ 0xCA ∷ 0xFE ∷ 0xFF ∷ []) (refuse_request refusal.Form)  -- M6
    ∷ configuration (0xA0 ∷ []) (accept_configuration empty_configuration)  -- M7
    ∷ configuration (0xA1 ∷ 0x03 ∷ 0x82 ∷ 0x42 ∷ 0x12 ∷ 0x34 ∷ 0x19 ∷ 0x0E ∷ 0x10 ∷ [])
    (accept_configuration (with_address empty_configuration (address_parameter Taken (address_of (0x12 ∷ 0x34 ∷ []) true 3600))))  -- M8
    ∷ configuration (0xA1 ∷ 0x03 ∷ 0x81 ∷ 0x41 ∷ 0x12 ∷ [])
    (accept_configuration (with_address empty_configuration (no_address_parameter Discarded)))  -- M9
    ∷ configuration (0xA1 ∷ 0x02 ∷ 0x80 ∷ []) (refuse_configuration refusal.Keys)  -- M10
    ∷ configuration (0xA1 ∷ 0x02 ∷ 0x81 ∷ 0x01 ∷ []) (refuse_configuration refusal.«Type»)  -- M11
    ∷ configuration (0xA1 ∷ 0x18 ∷ 0x63 ∷ 0xF6 ∷ []) one_passed  -- M12
    ∷ configuration (0xA1 ∷ 0x18 ∷ 0x63 ∷ 0x81 ∷ 0x81 ∷ 0x81 ∷ 0x81 ∷ 0x81 ∷ 0x81 ∷ 0x00 ∷ []) one_passed  -- M13
    ∷ configuration (0xA1 ∷ 0x18 ∷ 0x63 ∷ 0x81 ∷ 0x81 ∷ 0x81 ∷ 0x81 ∷ 0x81 ∷ 0x81 ∷ 0x81 ∷ 0x00 ∷ [])
    (refuse_configuration refusal.Deep)  -- M13
    ∷ []

abbrev pub MarkedExamples : Type 0
MarkedExamples = AllShown marked_examples
