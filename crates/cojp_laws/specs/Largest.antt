-- How long a payload can be. The largest configuration of the draft is 232 bytes: none takes more, and one takes as many. In either form no
-- object takes more than 256: one that would is RANGE when it is written (specs/Written.antt has one of 256 bytes, and one of 257), and a
-- payload that does is LONG when it is read.
use Rattle.std.specs.Prelude.{ℕ, ◌≤◌, ◌≡◌, true, List, [], ◌∷◌, length, replicate, Ok}
use Rattle.refusal.specs.declared.Refusal.TheVariants.{Long}
use Rattle.byte_io.specs.Write.{emit, answer, written_says}
use Rattle.cbor.specs.Encode.{encode}
use Rattle.cbor.specs.Item.{map_item}
use Rattle.link_key.specs.Key.{key_of}
use Rattle.link_key.specs.declared.Key.{Key}
use Rattle.cojp.specs.Address.{address_of, address_parameter}
use Rattle.cojp.specs.KeySet.{key_set_of, keys_parameter}
use Rattle.cojp.specs.ErrorReports.{no_error_reports}
use Rattle.cojp.specs.Lists.{list_parameter, no_list_parameter}
use Rattle.cojp.specs.Octets.{octets_of, octets_parameter}
use Rattle.cojp.specs.Rate.{no_rate_parameter}
use Rattle.cojp.specs.Configuration.{refuse_configuration, read_configuration_as}
use Rattle.cojp.specs.Writing.{request_plan, configuration_pairs, configuration_in_range, configuration_plan}
use Rattle.cojp.specs.declared.configuration.Configuration.{Configuration}
use Rattle.cojp.specs.declared.octets.OctetsParameter.{OctetsParameter}
use Rattle.cojp.specs.declared.disposition.Disposition.TheVariants.{Absent, Taken}
use Rattle.cojp.specs.declared.request.JoinRequest.{JoinRequest}
use Rattle.protocol_version.specs.declared.Version.{Version}
use Rattle.protocol_version.specs.declared.Version.TheVariants.{Draft, Published}

-- what is written of a configuration in the draft has at most 232 bytes
abbrev pub LargestConfiguration : Configuration → Type 0
LargestConfiguration c = (p : List ℕ) → configuration_plan Draft c ≡ emit p → length p ≤ 232

-- so none within its limits is too long to be written
abbrev pub DraftWritten : Configuration → Type 0
DraftWritten c = configuration_in_range Draft c ≡ true → configuration_plan Draft c ≡ emit (encode (map_item (configuration_pairs c)))

-- what is written has at most 256 bytes, in either form
pub record PayloadsFit : Type 0 where
  pub request : (v : Version) (q : JoinRequest) (p : List ℕ) → request_plan v q ≡ emit p → length p ≤ 256
  pub configuration : (v : Version) (c : Configuration) (p : List ℕ) → configuration_plan v c ≡ emit p → length p ≤ 256

-- ---- the witness: eight keys, each with an identifier of two bytes and a usage; a lease of nine bytes; three byte strings of sixteen
abbrev long_key : ℕ → Key
long_key identifier = key_of identifier 14 (replicate 16 identifier)

abbrev long_keys : List Key
long_keys = long_key 248 ∷ long_key 249 ∷ long_key 250 ∷ long_key 251 ∷ long_key 252 ∷ long_key 253 ∷ long_key 254 ∷ long_key 255 ∷ []

abbrev long_string : OctetsParameter
long_string = octets_parameter Taken (octets_of (replicate 16 0x50))

abbrev pub full_configuration : Configuration
full_configuration = record {
  keys = keys_parameter Taken (key_set_of long_keys);
  address = address_parameter Taken (address_of (0x12 ∷ 0x34 ∷ []) true 0xffffffffffffffff);
  jrc = long_string;
  network = long_string;
  prefix = long_string;
  blacklist = no_list_parameter Absent;
  rate = no_rate_parameter Absent;
  labels = no_error_reports;
  unknown = 0;
}

-- 232 bytes are written where there is room for them, and one byte less has no ROOM (12)
pub record LargestAttained : Type 0 where
  pub written : written_says (answer (configuration_plan Draft full_configuration) (replicate 232 0)) ≡ (0, 232)
  pub no_less : written_says (answer (configuration_plan Draft full_configuration) (replicate 231 0)) ≡ (12, 0)

-- ---- reading: a blacklist of one entry of so many bytes, five more in all
abbrev pub blacklisting : ℕ → List ℕ
blacklisting size = 0xA1 ∷ 0x06 ∷ 0x81 ∷ 0x58 ∷ size ∷ replicate size 0x0B

-- a payload of 256 bytes is read, its list of 253 taken whole; one of 257 is LONG
pub record LongestRead : Type 0 where
  pub size : length (blacklisting 251) ≡ 256
  pub accepted : (read_configuration_as Published (blacklisting 251)).verdict ≡ Ok tt
  pub taken :
      (read_configuration_as Published (blacklisting 251)).configuration.blacklist
      ≡ list_parameter Taken (record { count = 1; len = 253; bytes = 0x58 ∷ 251 ∷ replicate 251 0x0B })
  pub long : read_configuration_as Published (blacklisting 252) ≡ refuse_configuration Long
