-- The image of a configuration, 570 bytes: kind C, layout, report of the key set 1, key set 217, short address 12, JRC address 18, network
-- identifier 18, prefix 18, blacklist 256, join rate 9, known labels that came 11, labels passed over 8.
use Rattle.std.specs.Prelude.{ℕ}
use Rattle.image.specs.Part.{Part, number, both, viewed, headed}
use Rattle.key_image.specs.Key.{key_set_part}
use Rattle.link_key.specs.declared.set.key_set.KeySet.{KeySet}
use Rattle.cojp.specs.declared.address.AddressParameter.{AddressParameter}
use Rattle.cojp.specs.declared.configuration.Configuration.{Configuration}
use Rattle.cojp.specs.declared.error_report.ErrorReports.{ErrorReports}
use Rattle.cojp.specs.declared.key_set.KeysParameter.{KeysParameter}
use Rattle.cojp.specs.declared.list.ListParameter.{ListParameter}
use Rattle.cojp.specs.declared.octets.OctetsParameter.{OctetsParameter}
use Rattle.cojp.specs.declared.rate.RateParameter.{RateParameter}
use Rattle.cojp.specs.declared.disposition.Disposition.{Disposition}
use Rattle.object_image.specs.Address.{address_parameter_part}
use Rattle.object_image.specs.Codes.{disposition_part}
use Rattle.object_image.specs.ErrorReports.{error_reports_part}
use Rattle.object_image.specs.Lists.{list_parameter_part}
use Rattle.object_image.specs.Octets.{octets_parameter_part}
use Rattle.object_image.specs.Rate.{rate_parameter_part}

abbrev pub keys_parameter_to : Disposition × KeySet → KeysParameter
keys_parameter_to x = record { disposition = x.0; value = x.1 }

abbrev pub keys_parameter_from : KeysParameter → Disposition × KeySet
keys_parameter_from p = (p.disposition, p.value)

-- 218 bytes: its report stands in front of the key set
abbrev pub keys_parameter_part : Part KeysParameter
keys_parameter_part = viewed (both disposition_part key_set_part) keys_parameter_to keys_parameter_from

-- ---- two halves of 284 bytes: the fields up to the prefix, and those from the blacklist on
abbrev pub EarlierFields : Type 0
EarlierFields = KeysParameter × (AddressParameter × (OctetsParameter × (OctetsParameter × OctetsParameter)))

abbrev pub earlier_fields : Part EarlierFields
earlier_fields =
    both keys_parameter_part (both address_parameter_part (both octets_parameter_part (both octets_parameter_part octets_parameter_part)))

abbrev pub earlier_from : Configuration → EarlierFields
earlier_from c = (c.keys, (c.address, (c.jrc, (c.network, c.prefix))))

abbrev pub LaterFields : Type 0
LaterFields = ListParameter × (RateParameter × (ErrorReports × ℕ))

abbrev pub later_fields : Part LaterFields
later_fields = both list_parameter_part (both rate_parameter_part (both error_reports_part (number 8)))

abbrev pub later_from : Configuration → LaterFields
later_from c = (c.blacklist, (c.rate, (c.labels, c.unknown)))

-- ---- the whole
abbrev pub configuration_to : EarlierFields × LaterFields → Configuration
configuration_to x =
    record {
      keys = x.0.0;
      address = x.0.1.0;
      jrc = x.0.1.1.0;
      network = x.0.1.1.1.0;
      prefix = x.0.1.1.1.1;
      blacklist = x.1.0;
      rate = x.1.1.0;
      labels = x.1.1.1.0;
      unknown = x.1.1.1.1;
    }

abbrev pub configuration_from : Configuration → EarlierFields × LaterFields
configuration_from c = (earlier_from c, later_from c)

abbrev pub configuration_part : Part Configuration
configuration_part = viewed (both earlier_fields later_fields) configuration_to configuration_from

abbrev pub configuration_image : Part Configuration
configuration_image = headed 0x43 configuration_part
