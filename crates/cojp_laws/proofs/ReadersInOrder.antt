-- The two readers together, and the samples computed.
use mathlib.Core.Path.{refl}
use Rattle.byte_io.specs.BigEndian.{digits}
use Rattle.cbor.specs.Decode.{payload_by, decode_by, heading, argument, next, members, pairs, major_of}
use Rattle.cbor.specs.Encode.{info_of}
use Rattle.cbor.specs.Strict.{strict_heading, is_short}
use Rattle.link_key.specs.Key.{valid_key}
use Rattle.link_key.specs.set.KeySet.{valid_keys}
use Rattle.short_address.specs.Address.{is_address}
use Rattle.cojp.specs.Address.{address_in}
use Rattle.cojp.specs.Configuration.{configuration_taking}
use Rattle.cojp.specs.ErrorReports.{added}
use Rattle.cojp.specs.KeySet.{groups, identified, used, valued}
use Rattle.cojp.specs.Octets.{padded, octets_judged}
use Rattle.cojp.specs.Parameter.{parameter_of, later_parameter}
use Rattle.cojp.specs.Rate.{rate_taken}
use Rattle.cojp.specs.Request.{role_judged, request_label_status, request_taking, owing}
use Rattle.cojp.specs.Walk.{payload_read_by}
use Rattle.cojp_laws.specs.ReadingOrder.{ReadersInOrder}
use Rattle.cojp_laws.specs.ReadingOrderExample.{ReadingOrderExample}
use Rattle.cojp_laws.proofs.OrderedConfigurations.{configurations-in-order}
use Rattle.cojp_laws.proofs.OrderedRequests.{requests-in-order}

pub in_order : ReadersInOrder
in_order = record { request = requests-in-order; configuration = configurations-in-order }

pub samples : ReadingOrderExample
unfolding payload_by strict_heading is_short info_of decode_by heading argument next digits members pairs major_of valid_key valid_keys
    padded
    octets_judged is_address address_in groups identified used valued payload_read_by role_judged request_label_status request_taking owing
    parameter_of later_parameter configuration_taking added rate_taken
samples = record {
  request = (
    refl,
    (
      refl,
      (refl, (refl, (refl, (refl, (refl, (refl, (refl, (refl, (refl, (refl, (refl, (refl, (refl, (refl, tt)))))))))))))),
    ),
  );
  configuration = (refl, (refl, (refl, (refl, (refl, (refl, (refl, (refl, (refl, (refl, tt))))))))));
}
