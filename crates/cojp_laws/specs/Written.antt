-- Document 01's marked examples, written: the objects that its payloads are read as, the numbers and the bytes that the writers answer.
-- Beside them objects of the published form (docs/RFC9031.md), in both forms where that tells them apart, and the longest payload of it.
use Rattle.std.specs.Prelude.{ℕ, ◌≡◌, true, List, [], ◌∷◌, ◌++◌, length, drop, replicate}
use Rattle.byte_io.specs.Write.{Plan, answer, after, written_says}
use Rattle.link_key.specs.Key.{key_with_additional_info}
use Rattle.link_key.specs.declared.Key.{Key}
use Rattle.link_key.specs.declared.additional_info.AdditionalInfo.TheVariants as info
use Rattle.cojp.specs.Address.{address_of, address_parameter, no_address_parameter}
use Rattle.cojp.specs.Configuration.{empty_configuration, with_keys, with_address, with_jrc}
use Rattle.cojp.specs.Configuration.{with_prefix, with_blacklist, with_rate, with_unknown_count}
use Rattle.cojp.specs.Examples.{cafe}
use Rattle.cojp.specs.ErrorReports.{no_error_reports}
use Rattle.cojp.specs.KeySet.{key_set_of, keys_parameter}
use Rattle.cojp.specs.Lists.{list_parameter, no_list_parameter}
use Rattle.cojp.specs.Octets.{octets_of, octets_parameter, no_octets_parameter, padded}
use Rattle.cojp.specs.Rate.{rate_parameter}
use Rattle.cojp.specs.Writing.{request_plan, configuration_plan}
use Rattle.cojp.specs.declared.configuration.Configuration.{Configuration}
use Rattle.cojp.specs.declared.list.ListParameter.{ListParameter}
use Rattle.cojp.specs.declared.octets.OctetsParameter.{OctetsParameter}
use Rattle.cojp.specs.declared.disposition.Disposition.TheVariants.{Absent, Taken, Discarded}
use Rattle.protocol_version.specs.declared.Version.{Version}
use Rattle.protocol_version.specs.declared.Version.TheVariants.{Draft, Published}

-- what is asked, how many bytes there are to write to, the number that is answered, and the bytes that are written
pub record Example : Type 0 where
  pub plan : Plan
  pub room : ℕ
  pub number : ℕ
  pub payload : List ℕ

abbrev pub Shown : Example → Type 0
Shown e =
    let d : List ℕ = replicate e.room 0xEE in
    (written_says (answer e.plan d) ≡ (e.number, length e.payload))
    × (after e.plan d ≡ e.payload ++ drop (length e.payload) d)

abbrev pub AllShown : List Example → Type 0
AllShown [] = Unit {0}
AllShown (e ∷ es) = Shown e × AllShown es

abbrev reporting : Version → ℕ → OctetsParameter → ListParameter → Plan
reporting v role network unsupported =
    request_plan v (record { role = role; network = network; unsupported = unsupported; errors = no_error_reports; unknown = 0 })

abbrev asking : ℕ → OctetsParameter → Plan
asking role network = reporting Draft role network (no_list_parameter Absent)

abbrev writes : Plan → List ℕ → Example
writes plan payload = record { plan = plan; room = 16; number = 0; payload = payload }

-- a refusal, which writes no byte
abbrev refuses : Plan → ℕ → ℕ → Example
refuses plan room number = record { plan = plan; room = room; number = number; payload = [] }

abbrev none : OctetsParameter
none = no_octets_parameter Absent

abbrev pub written_examples : List Example
written_examples =
    writes (asking 0 cafe) (0xA1 ∷ 0x05 ∷ 0x42 ∷ 0xCA ∷ 0xFE ∷ [])  -- M1
    ∷ refuses (asking 0 cafe) 4 12  -- M1 without room
    ∷ refuses (asking 0 none) 16 9  -- M3
    ∷ writes (asking 1 none) (0xA1 ∷ 0x01 ∷ 0x01 ∷ [])  -- M4
    ∷ refuses (asking 2 none) 16 13  -- M5
    ∷ writes (configuration_plan Draft empty_configuration) (0xA0 ∷ [])  -- M7
    ∷ writes (configuration_plan Draft
    (with_address empty_configuration (address_parameter Taken (address_of (0x12 ∷ 0x34 ∷ []) true 3600))))
    (0xA1 ∷ 0x03 ∷ 0x82 ∷ 0x42 ∷ 0x12 ∷ 0x34 ∷ 0x19 ∷ 0x0E ∷ 0x10 ∷ [])  -- M8
    ∷ writes (configuration_plan Draft (with_address empty_configuration (no_address_parameter Discarded))) (0xA0 ∷ [])  -- M9
    ∷ writes (configuration_plan Draft (with_unknown_count empty_configuration 1)) (0xA0 ∷ [])  -- M12
    ∷ []

-- ---- objects of the published form
-- a list of so many members, in these bytes
abbrev listed : ℕ → List ℕ → ListParameter
listed n s = list_parameter Taken (record { count = n; len = length s; bytes = padded 253 s })

-- join rate 5; a blacklist; a key with additional information; one report
abbrev rated : Configuration
rated = with_rate empty_configuration (rate_parameter Taken 5)

abbrev blacklisting : ListParameter → Configuration
blacklisting l = with_blacklist empty_configuration l

abbrev sourced : Configuration
sourced =
    with_keys empty_configuration
    (keys_parameter Taken (key_set_of (key_with_additional_info 1 0 (replicate 16 0x50) (info.Four 0xD0 0xD1 0xD2 0xD3) ∷ [])))

abbrev reports : ListParameter
reports = listed 3 (0x01 ∷ 0x06 ∷ 0xF6 ∷ [])

abbrev pub published_examples : List Example
published_examples =
    writes (configuration_plan Published rated) (0xA1 ∷ 0x07 ∷ 0x05 ∷ [])
    ∷ refuses (configuration_plan Draft rated) 16 13
    ∷ writes (configuration_plan Published (blacklisting (listed 1 (0x42 ∷ 0xCA ∷ 0xFE ∷ []))))
    (0xA1 ∷ 0x06 ∷ 0x81 ∷ 0x42 ∷ 0xCA ∷ 0xFE ∷ [])
    ∷ writes (configuration_plan Published (blacklisting (listed 0 []))) (0xA1 ∷ 0x06 ∷ 0x80 ∷ [])
    ∷ refuses (configuration_plan Published (blacklisting (listed 2 (0x42 ∷ 0xCA ∷ 0xFE ∷ [])))) 16 13
    ∷ refuses (configuration_plan Published (with_prefix empty_configuration cafe)) 16 13
    ∷ refuses (configuration_plan Published sourced) 16 12
    ∷ refuses (configuration_plan Draft sourced) 16 13
    ∷ refuses (reporting Published 1 none (no_list_parameter Absent)) 16 9
    ∷ writes (reporting Published 1 cafe reports) (0xA3 ∷ 0x01 ∷ 0x01 ∷ 0x05 ∷ 0x42 ∷ 0xCA ∷ 0xFE ∷ 0x08 ∷ 0x83 ∷ 0x01 ∷ 0x06 ∷ 0xF6 ∷ [])
    ∷ refuses (reporting Published 0 cafe (listed 0 [])) 16 13
    ∷ refuses (reporting Draft 0 cafe reports) 16 13
    ∷ []

-- ---- the longest payload, 256 bytes: eight keys of 29, each with an identifier of two bytes, a usage and a key source of eight bytes, a
-- JRC address of 18, and join rate 23, which takes two; rate 24 takes one more
abbrev far_key : ℕ → Key
far_key identifier = key_with_additional_info identifier 14 (replicate 16 0x50) (info.Eight 0xD0 0xD1 0xD2 0xD3 0xD4 0xD5 0xD6 0xD7)

abbrev far_keys : List Key
far_keys = far_key 248 ∷ far_key 249 ∷ far_key 250 ∷ far_key 251 ∷ far_key 252 ∷ far_key 253 ∷ far_key 254 ∷ far_key 255 ∷ []

abbrev full_at : ℕ → Configuration
full_at rate =
    with_rate
    (with_jrc (with_keys empty_configuration (keys_parameter Taken (key_set_of far_keys)))
    (octets_parameter Taken (octets_of (replicate 16 0x20))))
    (rate_parameter Taken rate)

-- the bytes of such a key
abbrev far_group : ℕ → List ℕ
far_group identifier =
    0x18 ∷ identifier ∷ 0x0E ∷ 0x50 ∷ (replicate 16 0x50 ++ (0x48 ∷ 0xD0 ∷ 0xD1 ∷ 0xD2 ∷ 0xD3 ∷ 0xD4 ∷ 0xD5 ∷ 0xD6 ∷ 0xD7 ∷ []))

abbrev far_groups : List ℕ
far_groups =
    far_group 248 ++ (far_group 249 ++ (far_group 250
    ++ (far_group 251 ++ (far_group 252 ++ (far_group 253 ++ (far_group 254 ++ far_group 255))))))

abbrev pub longest_examples : List Example
longest_examples =
    record {
      plan = configuration_plan Published (full_at 23);
      room = 256;
      number = 0;
      payload = 0xA3 ∷ 0x02 ∷ 0x98 ∷ 0x20 ∷ (far_groups ++ (0x04 ∷ 0x50 ∷ (replicate 16 0x20 ++ (0x07 ∷ 0x17 ∷ []))));
    }
    ∷ refuses (configuration_plan Published (full_at 23)) 255 12
    ∷ refuses (configuration_plan Published (full_at 24)) 257 13
    ∷ []

abbrev pub WrittenExamples : Type 0
WrittenExamples = AllShown written_examples × AllShown published_examples × AllShown longest_examples
