-- Computed.
use mathlib.Core.Path.{refl}
use Rattle.byte_io.specs.BigEndian.{digits}
use Rattle.cbor.specs.Decode.{payload_by, decode_by, heading, argument, next, members, pairs, major_of}
use Rattle.cbor.specs.Strict.{strict_heading}
use Rattle.cojp.specs.Octets.{padded, octets_judged}
use Rattle.cojp.specs.Request.{role_judged, request_label_status, request_taking, owing}
use Rattle.cojp.specs.Walk.{payload_read_by}
use Rattle.cojp_serial.specs.State.{decision_of}
use Rattle.cojp_serial.proofs.serial_examples.Goals as goal

pub returns : goal.returns
unfolding decision_of payload_read_by payload_by decode_by heading strict_heading argument next digits members pairs major_of
    padded octets_judged role_judged request_label_status request_taking owing
returns c = record { before = refl; parts = refl; whole = refl; then = refl; lent = refl; draft = refl; published = refl }
