-- The tables are computed.
use mathlib.Core.Path.{refl}
use Rattle.byte_io.specs.BigEndian.{digits, bytes_of}
use Rattle.cbor.specs.Decode.{payload_by, decode_by, heading, argument, next, members, pairs, major_of}
use Rattle.cbor.specs.Encode.{info_of, shortest, extra_of}
use Rattle.link_key.specs.Key.{valid_key}
use Rattle.link_key.specs.set.KeySet.{valid_keys}
use Rattle.short_address.specs.Address.{is_address}
use Rattle.cojp.specs.Address.{address_in}
use Rattle.cojp.specs.Configuration.{configuration_taking}
use Rattle.cojp.specs.ErrorReports.{added}
use Rattle.cojp.specs.KeySet.{groups, identified, used, valued}
use Rattle.cojp.specs.Lists.{strings_in, error_reports_in}
use Rattle.cojp.specs.Octets.{padded, octets_judged}
use Rattle.cojp.specs.Parameter.{parameter_of, later_parameter}
use Rattle.cojp.specs.Rate.{rate_taken}
use Rattle.cojp.specs.Reported.{error_reports_of}
use Rattle.cojp.specs.Request.{role_judged, request_label_status, request_taking, owing}
use Rattle.cojp.specs.Walk.{payload_read_by}
use Rattle.cojp_rfc9031_laws.specs.BadValues.{BadValues}

pub bad-values : BadValues
unfolding payload_by info_of decode_by heading argument next digits members pairs major_of shortest extra_of bytes_of valid_key valid_keys
    is_address
    address_in configuration_taking added groups identified used valued strings_in error_reports_in padded octets_judged
    parameter_of later_parameter
    rate_taken error_reports_of role_judged request_label_status request_taking owing payload_read_by
bad-values = record {
  rows = (refl, (refl, (refl, (refl, (refl, (refl, (refl, (refl, tt))))))));
  no-hours = refl;
  usage-0 = refl;
}
