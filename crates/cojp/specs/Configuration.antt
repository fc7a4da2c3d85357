-- Configurations: 2 key set, 3 short address, 4 JRC address; 5 network identifier and 6 prefix in the draft; 6 blacklist and 7 join rate in
-- the published form (docs/RFC9031.md). What does not belong to a form stays absent in it.
use Rattle.std.specs.Prelude.{ℕ, ◌+◌, List, Ok, Err}
use Rattle.refusal.specs.declared.Refusal.{Refusal}
use Rattle.cbor.specs.Decode.{Outcome, Heading, heading}
use Rattle.cbor.specs.Strict.{strict_heading}
use Rattle.cbor.specs.View.{View}
use Rattle.protocol_version.specs.Version.{by_version, allows_additional_info}
use Rattle.cojp.specs.Reading.{Reading, refused, read, map_reading, by_version_of}
use Rattle.cojp.specs.Octets.{no_octets_parameter, octets_read}
use Rattle.cojp.specs.Address.{no_address_parameter, address_read}
use Rattle.cojp.specs.ErrorReports.{no_error_reports, added}
use Rattle.cojp.specs.KeySet.{no_keys_parameter, keys_read_as}
use Rattle.cojp.specs.Lists.{no_list_parameter, blacklist_taken}
use Rattle.cojp.specs.Parameter.{parameter_of}
use Rattle.cojp.specs.Rate.{no_rate_parameter, rate_taken}
use Rattle.cojp.specs.Walk.{Form, label_status_of, payload_read_by}
use Rattle.cojp.specs.declared.address.AddressParameter.{AddressParameter}
use Rattle.cojp.specs.declared.configuration.Configuration.{Configuration}
use Rattle.cojp.specs.declared.configuration.ConfigurationRead.{ConfigurationRead}
use Rattle.cojp.specs.declared.error_report.ErrorReports.{ErrorReports}
use Rattle.cojp.specs.declared.key_set.KeysParameter.{KeysParameter}
use Rattle.cojp.specs.declared.list.ListParameter.{ListParameter}
use Rattle.cojp.specs.declared.octets.OctetsParameter.{OctetsParameter}
use Rattle.cojp.specs.declared.parameter.Parameter.{Parameter}
use Rattle.cojp.specs.declared.parameter.Parameter.TheVariants as name
use Rattle.cojp.specs.declared.rate.RateParameter.{RateParameter}
use Rattle.cojp.specs.declared.disposition.Disposition.TheVariants.{Absent, Discarded}
use Rattle.protocol_version.specs.declared.Version.{Version}
use Rattle.protocol_version.specs.declared.Version.TheVariants.{Draft}
use Rattle.cojp.specs.declared.walk.LabelStatus.{LabelStatus}
use Rattle.cojp.specs.declared.walk.LabelStatus.TheVariants.{Unknown}

abbrev pub empty_configuration : Configuration
empty_configuration = record {
  keys = no_keys_parameter Absent;
  address = no_address_parameter Absent;
  jrc = no_octets_parameter Absent;
  network = no_octets_parameter Absent;
  prefix = no_octets_parameter Absent;
  blacklist = no_list_parameter Absent;
  rate = no_rate_parameter Absent;
  labels = no_error_reports;
  unknown = 0;
}

-- ---- the configuration with one part changed
module _ (c : Configuration) where
  abbrev pub with_keys : KeysParameter → Configuration
  with_keys p = record {
    keys = p;
    address = c.address;
    jrc = c.jrc;
    network = c.network;
    prefix = c.prefix;
    blacklist = c.blacklist;
    rate = c.rate;
    labels = c.labels;
    unknown = c.unknown;
  }

  abbrev pub with_address : AddressParameter → Configuration
  with_address p = record {
    keys = c.keys;
    address = p;
    jrc = c.jrc;
    network = c.network;
    prefix = c.prefix;
    blacklist = c.blacklist;
    rate = c.rate;
    labels = c.labels;
    unknown = c.unknown;
  }

  abbrev pub with_jrc : OctetsParameter → Configuration
  with_jrc p = record {
    keys = c.keys;
    address = c.address;
    jrc = p;
    network = c.network;
    prefix = c.prefix;
    blacklist = c.blacklist;
    rate = c.rate;
    labels = c.labels;
    unknown = c.unknown;
  }

  abbrev pub with_network : OctetsParameter → Configuration
  with_network p = record {
    keys = c.keys;
    address = c.address;
    jrc = c.jrc;
    network = p;
    prefix = c.prefix;
    blacklist = c.blacklist;
    rate = c.rate;
    labels = c.labels;
    unknown = c.unknown;
  }

  abbrev pub with_prefix : OctetsParameter → Configuration
  with_prefix p = record {
    keys = c.keys;
    address = c.address;
    jrc = c.jrc;
    network = c.network;
    prefix = p;
    blacklist = c.blacklist;
    rate = c.rate;
    labels = c.labels;
    unknown = c.unknown;
  }

  abbrev pub with_blacklist : ListParameter → Configuration
  with_blacklist p = record {
    keys = c.keys;
    address = c.address;
    jrc = c.jrc;
    network = c.network;
    prefix = c.prefix;
    blacklist = p;
    rate = c.rate;
    labels = c.labels;
    unknown = c.unknown;
  }

  abbrev pub with_rate : RateParameter → Configuration
  with_rate p = record {
    keys = c.keys;
    address = c.address;
    jrc = c.jrc;
    network = c.network;
    prefix = c.prefix;
    blacklist = c.blacklist;
    rate = p;
    labels = c.labels;
    unknown = c.unknown;
  }

  abbrev pub with_labels_seen : ErrorReports → Configuration
  with_labels_seen f = record {
    keys = c.keys;
    address = c.address;
    jrc = c.jrc;
    network = c.network;
    prefix = c.prefix;
    blacklist = c.blacklist;
    rate = c.rate;
    labels = f;
    unknown = c.unknown;
  }

  abbrev pub with_unknown_count : ℕ → Configuration
  with_unknown_count n = record {
    keys = c.keys;
    address = c.address;
    jrc = c.jrc;
    network = c.network;
    prefix = c.prefix;
    blacklist = c.blacklist;
    rate = c.rate;
    labels = c.labels;
    unknown = n;
  }

-- ---- labels that are known, by the parameter that they name
abbrev pub label_status_for : Configuration → Parameter → LabelStatus
label_status_for c name.Keys = label_status_of c.keys.disposition
label_status_for c name.Address = label_status_of c.address.disposition
label_status_for c name.Jrc = label_status_of c.jrc.disposition
label_status_for c name.Network = label_status_of c.network.disposition
label_status_for c name.Prefix = label_status_of c.prefix.disposition
label_status_for c name.Blacklist = label_status_of c.blacklist.disposition
label_status_for c name.Rate = label_status_of c.rate.disposition
label_status_for c name.Unknown = Unknown

abbrev pub configuration_passing : Configuration → Configuration
configuration_passing c = with_unknown_count c (c.unknown + 1)

-- what is taken of its value; network identifier and prefix are the draft's alone, blacklist and join rate the published form's
abbrev pub taking_for : Version → Configuration → Parameter → View → Reading Configuration
taking_for v c name.Keys x = map_reading (with_keys c) (by_version_of v (no_keys_parameter Discarded)
    (keys_read_as (allows_additional_info v) x))
taking_for v c name.Address x = map_reading (with_address c) (by_version_of v (no_address_parameter Discarded) (address_read x))
taking_for v c name.Jrc x = map_reading (with_jrc c) (by_version_of v (no_octets_parameter Discarded) (octets_read 16 x))
taking_for v c name.Network x = map_reading (with_network c) (octets_read 0 x)
taking_for v c name.Prefix x = map_reading (with_prefix c) (octets_read 0 x)
taking_for v c name.Blacklist x = read (with_blacklist c (blacklist_taken x))
taking_for v c name.Rate x = read (with_rate c (rate_taken x))
taking_for v c name.Unknown x = read c

-- in the published form the known labels are noted in the order in which they came, each as the report that it would get: 1 is malformed
abbrev pub noted : Version → ℕ → Configuration → Configuration
noted v n c = with_labels_seen c (by_version v c.labels (added c.labels 1 n))

unfoldable pub configuration_taking : Version → Configuration → ℕ → View → Reading Configuration
configuration_taking v c n x = map_reading (noted v n) (taking_for v c (parameter_of v n) x)

abbrev pub configuration_form : Version → Form Configuration
configuration_form v = record {
  standing = λ c n. label_status_for c (parameter_of v n);
  passing = configuration_passing;
  taking = configuration_taking v;
}

-- ---- the answer: beside a refusal stands the empty configuration
abbrev pub refuse_configuration : Refusal → ConfigurationRead
refuse_configuration k = record { verdict = Err k; configuration = empty_configuration }

abbrev pub accept_configuration : Configuration → ConfigurationRead
accept_configuration c = record { verdict = Ok tt; configuration = c }

abbrev pub configuration_answer : Reading Configuration → ConfigurationRead
configuration_answer (refused k) = refuse_configuration k
configuration_answer (read c) = accept_configuration c

-- its heads read by `head`
abbrev pub read_configuration_by : Version → (List ℕ → Outcome Heading) → List ℕ → ConfigurationRead
read_configuration_by v head p = configuration_answer (payload_read_by (configuration_form v) head empty_configuration p)

abbrev pub read_configuration_as : Version → List ℕ → ConfigurationRead
read_configuration_as v p = read_configuration_by v heading p

abbrev pub read_strict_configuration_as : Version → List ℕ → ConfigurationRead
read_strict_configuration_as v p = read_configuration_by v strict_heading p

-- in document 01's form
abbrev pub read_configuration : List ℕ → ConfigurationRead
read_configuration p = read_configuration_as Draft p
