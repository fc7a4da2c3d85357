-- Payloads of the published form (RFC 9031) and what they must be read as; docs/RFC9031.md has the rules. One list, one statement.
use Rattle.std.specs.Prelude.{ℕ, true, List, [], ◌∷◌, ◌++◌, replicate}
use Rattle.refusal.specs.declared.Refusal.TheVariants as refusal
use Rattle.link_key.specs.Key.{key_with_additional_info}
use Rattle.link_key.specs.declared.additional_info.AdditionalInfo.TheVariants as info
use Rattle.cojp.specs.Address.{address_of, address_parameter, no_address_parameter}
use Rattle.cojp.specs.Configuration.{empty_configuration, with_keys, with_address, with_jrc, with_prefix}
use Rattle.cojp.specs.Configuration.{with_blacklist, with_rate, with_labels_seen, with_unknown_count}
use Rattle.cojp.specs.Configuration.{refuse_configuration, accept_configuration}
use Rattle.cojp.specs.Examples.{Example, configuration, published_request, published_configuration, AllShown, cafe}
use Rattle.cojp.specs.ErrorReports.{error_report_of, no_error_reports}
use Rattle.cojp.specs.KeySet.{key_set_of, keys_parameter, no_keys_parameter}
use Rattle.cojp.specs.Lists.{list_parameter, no_list_parameter}
use Rattle.cojp.specs.Octets.{octets_parameter, no_octets_parameter}
use Rattle.cojp.specs.Rate.{rate_parameter}
use Rattle.cojp.specs.Request.{accept_request, refuse_request}
use Rattle.cojp.specs.declared.configuration.Configuration.{Configuration}
use Rattle.cojp.specs.declared.configuration.ConfigurationRead.{ConfigurationRead}
use Rattle.cojp.specs.declared.error_report.ErrorReports.{ErrorReports}
use Rattle.cojp.specs.declared.list.ListParameter.{ListParameter}
use Rattle.cojp.specs.declared.octets.OctetsParameter.{OctetsParameter}
use Rattle.cojp.specs.declared.disposition.Disposition.TheVariants.{Absent, Taken, Discarded}
use Rattle.cojp.specs.declared.request.RequestRead.{RequestRead}

-- ---- what is expected
-- one report, and two
abbrev pub one_error_report : ℕ → ℕ → ErrorReports
one_error_report code label = record { count = 1; reports = error_report_of code label ∷ replicate 4 (error_report_of 0 0) }

abbrev pub two_error_reports : ℕ → ℕ → ErrorReports
two_error_reports first second =
    record { count = 2; reports = error_report_of 1 first ∷ error_report_of 1 second ∷ replicate 3 (error_report_of 0 0) }

-- a request of role 0 with this network identifier, list of reports, and reports of its own
abbrev pub joining : OctetsParameter → ListParameter → ErrorReports → RequestRead
joining network unsupported faults = accept_request (record {
  role = 0;
  network = network;
  unsupported = unsupported;
  errors = faults;
  unknown = 0;
})

-- a network identifier of one byte 0
abbrev pub zero_byte : OctetsParameter
zero_byte = octets_parameter Taken (record { len = 1; bytes = 0 ∷ replicate 15 0 })

-- a configuration of one known label, whatever became of it
abbrev pub met : ℕ → Configuration → ConfigurationRead
met label c = accept_configuration (with_labels_seen c (one_error_report 1 label))

abbrev pub value : List ℕ
value = replicate 16 7

-- ---- the payloads
abbrev pub published_examples : List Example
published_examples =
    -- label 6 is the prefix in the draft, and a blacklist, here malformed, in the published form
    configuration (0xA1 ∷ 0x06 ∷ 0x42 ∷ 0x20 ∷ 0x01 ∷ [])
    (accept_configuration (with_prefix empty_configuration (octets_parameter Taken
    (record { len = 2; bytes = 0x20 ∷ 0x01 ∷ replicate 14 0 }))))
    ∷ published_configuration (0xA1 ∷ 0x06 ∷ 0x42 ∷ 0x20 ∷ 0x01 ∷ []) (met 6 (with_blacklist empty_configuration
    (no_list_parameter Discarded)))
    -- label 5 is unknown in a configuration
    ∷ published_configuration (0xA1 ∷ 0x05 ∷ 0x42 ∷ 0xCA ∷ 0xFE ∷ []) (accept_configuration (with_unknown_count empty_configuration 1))
    -- a label that is no integer, and a label that comes again after a bad value, still refuse the payload
    ∷ published_configuration (0xA1 ∷ 0x61 ∷ 0x61 ∷ 0x00 ∷ []) (refuse_configuration refusal.«Type»)
    ∷ published_configuration (0xA2 ∷ 0x03 ∷ 0x05 ∷ 0x03 ∷ 0x81 ∷ 0x42 ∷ 0x12 ∷ 0x34 ∷ []) (refuse_configuration refusal.Twice)
    -- a broken key set, and one of no keys, are malformed
    ∷ published_configuration (0xA1 ∷ 0x02 ∷ 0x81 ∷ 0x01 ∷ []) (met 2 (with_keys empty_configuration (no_keys_parameter Discarded)))
    ∷ published_configuration (0xA1 ∷ 0x02 ∷ 0x80 ∷ []) (met 2 (with_keys empty_configuration (no_keys_parameter Discarded)))
    -- additional information of 4 bytes is taken, of 3 it is malformed, and so are two keys of one identifier with different sources
    ∷ published_configuration ((0xA1 ∷ 0x02 ∷ 0x83 ∷ 0x01 ∷ 0x50 ∷ []) ++ value ++ (0x44 ∷ 1 ∷ 2 ∷ 3 ∷ 4 ∷ []))
    (met 2 (with_keys empty_configuration (keys_parameter Taken (key_set_of (key_with_additional_info 1 0 value (info.Four 1 2 3 4) ∷
    [])))))
    ∷ published_configuration ((0xA1 ∷ 0x02 ∷ 0x83 ∷ 0x01 ∷ 0x50 ∷ []) ++ value ++ (0x43 ∷ 1 ∷ 2 ∷ 3 ∷ []))
    (met 2 (with_keys empty_configuration (no_keys_parameter Discarded)))
    ∷ published_configuration
    ((0xA1 ∷ 0x02 ∷ 0x86 ∷ 0x01 ∷ 0x50 ∷ []) ++ value ++ (0x44 ∷ 1 ∷ 2 ∷ 3 ∷ 4 ∷ 0x01 ∷ 0x50 ∷ []) ++ value ++ (0x44 ∷ 1 ∷ 2 ∷ 3 ∷ 5 ∷ []))
    (met 2 (with_keys empty_configuration (no_keys_parameter Discarded)))
    -- a short identifier of one byte, and FFFE, are malformed; a lease is a number of hours
    ∷ published_configuration (0xA1 ∷ 0x03 ∷ 0x81 ∷ 0x41 ∷ 0x12 ∷ []) (met 3 (with_address empty_configuration
    (no_address_parameter Discarded)))
    ∷ published_configuration (0xA1 ∷ 0x03 ∷ 0x81 ∷ 0x42 ∷ 0xFF ∷ 0xFE ∷ [])
    (met 3 (with_address empty_configuration (no_address_parameter Discarded)))
    ∷ published_configuration (0xA1 ∷ 0x03 ∷ 0x82 ∷ 0x42 ∷ 0x12 ∷ 0x34 ∷ 0x01 ∷ [])
    (met 3 (with_address empty_configuration (address_parameter Taken (address_of (0x12 ∷ 0x34 ∷ []) true 1))))
    -- an empty blacklist is a list, and 0 is a rate
    ∷ published_configuration (0xA1 ∷ 0x06 ∷ 0x80 ∷ []) (met 6 (with_blacklist empty_configuration (no_list_parameter Taken)))
    ∷ published_configuration (0xA1 ∷ 0x07 ∷ 0x00 ∷ []) (met 7 (with_rate empty_configuration (rate_parameter Taken 0)))
    -- bad values are noted in payload order, and the rest of the payload is read
    ∷ published_configuration (0xA2 ∷ 0x04 ∷ 0x41 ∷ 0x00 ∷ 0x03 ∷ 0x05 ∷ [])
    (accept_configuration
    (with_labels_seen (with_address (with_jrc empty_configuration (no_octets_parameter Discarded)) (no_address_parameter Discarded))
    (two_error_reports 4 3)))
    -- a request: the network identifier is due from a 6LBR too; a bad role reads as 0 and is reported, by its kind
    ∷ published_request (0xA1 ∷ 0x01 ∷ 0x01 ∷ []) (refuse_request refusal.Owed)
    ∷ published_request (0xA2 ∷ 0x01 ∷ 0x02 ∷ 0x05 ∷ 0x41 ∷ 0x00 ∷ []) (joining zero_byte (no_list_parameter Absent) (one_error_report 0 1))
    ∷ published_request (0xA2 ∷ 0x01 ∷ 0x61 ∷ 0x31 ∷ 0x05 ∷ 0x41 ∷ 0x00 ∷ [])
    (joining zero_byte (no_list_parameter Absent) (one_error_report 1 1))
    -- a list of reports has groups of three, at least one; the third member is kept as null
    ∷ published_request (0xA2 ∷ 0x05 ∷ 0x42 ∷ 0xCA ∷ 0xFE ∷ 0x08 ∷ 0x80 ∷ [])
    (joining cafe (no_list_parameter Discarded) (one_error_report 1 8))
    ∷ published_request (0xA2 ∷ 0x05 ∷ 0x42 ∷ 0xCA ∷ 0xFE ∷ 0x08 ∷ 0x83 ∷ 0x00 ∷ 0x07 ∷ 0x81 ∷ 0x00 ∷ [])
    (joining cafe (list_parameter Taken (record { count = 3; len = 3; bytes = (0x00 ∷ 0x07 ∷ 0xF6 ∷ []) ++ replicate 250 0 }))
    no_error_reports)
    ∷ []

abbrev pub PublishedExamples : Type 0
PublishedExamples = AllShown published_examples
