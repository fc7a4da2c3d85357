-- The image of an arrival, 6 bytes: kind S, layout, how many bytes arrived 2, overrun 1, ended 1.
-- The bytes themselves stand in a lent store.
use Rattle.std.specs.Prelude.{ℕ, Bool}
use Rattle.image.specs.Part.{Part, number, both, viewed, headed}
use Rattle.cojp_serial.specs.declared.state.SerialState.{SerialState}
use Rattle.object_image.specs.Codes.{bool_part}

abbrev pub serial_fields : Part (ℕ × (Bool × Bool))
serial_fields = both (number 2) (both bool_part bool_part)

abbrev pub serial_to : ℕ × (Bool × Bool) → SerialState
serial_to x = record { arrived = x.0; overrun = x.1.0; ended = x.1.1 }

abbrev pub serial_from : SerialState → ℕ × (Bool × Bool)
serial_from a = (a.arrived, (a.overrun, a.ended))

abbrev pub serial_image : Part SerialState
serial_image = headed 0x53 (viewed serial_fields serial_to serial_from)
