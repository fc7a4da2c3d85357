-- The image is lawful by its table, and the fields that the code stores one after the other make up the image.
use Prim.Native.Nat.{ℕ}
use mathlib.Core.Path.{◌≡◌, refl, ◌∙◌}
use mathlib.Core.Bool.{true}
use mathlib.Core.List.{List, [], ◌∷◌, ◌++◌}
use native.Mathlib.Omega.{arith}
use lib.Dec.{eqb}
use lib.ListN.{length}
use lib.Seq.{take_all}
use Rattle.byte_io.specs.Write.{Wrote}
use Rattle.byte_io.specs.BigEndian.{bytes_of}
use Rattle.lemmas.specs.logic.Tests.{both_right}
use Rattle.image.specs.Fields.{whole-struct, two_fields}
use Rattle.image.specs.CodecLaws.{number-lawful, both-lawful, viewed-lawful, headed-lawful}
use Rattle.image.proofs.Lent.{long}
use Rattle.image.specs.Part.{AllBytes, RoundTrips, viewed, is_image}
use Rattle.cojp_serial.specs.declared.state.SerialState.{SerialState}
use Rattle.object_image.specs.Codes.{bool_part}
use Rattle.serial_calls.specs.Laws.{SerialImages}
use Rattle.serial_calls.specs.Serial.{serial_fields, serial_to, serial_from, serial_image}

pub serial-stored : (a : SerialState) {d d' : List ℕ} → length d ≡ 6
    → Wrote ((((0x53 ∷ 1 ∷ []) ++ bytes_of 2 a.arrived) ++ bool_part.put a.overrun) ++ bool_part.put a.ended) d 6 d'
    → d' ≡ serial_image.put a
serial-stored a e w =
    whole-struct e w ∙ two_fields ((0x53 ∷ 1 ∷ []) ++ bytes_of 2 a.arrived) (bool_part.put a.overrun) (bool_part.put a.ended)

-- ---- the law, by that of a truth value
module _ (bool : RoundTrips bool_part) where
  serial-lawful : RoundTrips serial_image
  serial-lawful =
      headed-lawful 0x53 (viewed serial_fields serial_to serial_from)
      (viewed-lawful serial_fields serial_to serial_from (λ a. refl) (λ x h. refl)
      (both-lawful _ _ (number-lawful 2) (both-lawful _ _ bool bool)))

  pub serial-images : SerialImages
  serial-images = record { serial-size = refl; serial = serial-lawful }

  -- what was loaded is stored as it stood
  pub stored-again : (s : List ℕ) → AllBytes s → is_image serial_image s ≡ true → serial_image.put (serial_image.get s) ≡ s
  stored-again s b e =
      let l : length s ≡ 6 = long serial_image s e in
      serial-lawful.back s b (omega arith) (both_right (eqb (length s) 6) (serial_image.good s) e) ∙ take_all 6 s (omega arith)
