-- What is promised of the image and of the calls. A refused call leaves store and image byte for byte, with request 12's two exceptions: a
-- part that is LONG marks the overrun, and an end that gets to its reading stays marked. A refused end's result is all zero; a struct of
-- another length is not touched.
use Rattle.std.specs.Prelude.{ℕ, true, false, ◌&&◌, List, ◌≡◌, eqb, length}
use Rattle.refusal.specs.Refusal.{number_of}
use Rattle.refusal.specs.declared.Refusal.TheVariants.{Long}
use Rattle.image.specs.Effects.{zeroed}
use Rattle.image.specs.Part.{AllBytes, RoundTrips}
use Rattle.cojp_serial.specs.State.{decision_of, overran, end_marked}
use Rattle.cojp_serial.specs.declared.state.PartDecision.TheVariants.{Open}
use Rattle.serial_calls.specs.Ends.{may_end, EndsRequest, EndsConfiguration}
use Rattle.serial_calls.specs.Parts.{Resets, Parts}
use Rattle.serial_calls.specs.Serial.{serial_image}

-- what was stored is loaded as it was, and stored as it stood
pub record SerialImages : Type 0 where
  pub serial-size : serial_image.size ≡ 6
  pub serial : RoundTrips serial_image

-- whether the end gets to its reading
abbrev pub GetsToReading : List ℕ → List ℕ → Type 0
GetsToReading s m = decision_of (serial_image.get s) (length m) 0 ≡ Open

pub record SerialRefusals : Type 0 where
  pub reset : (s : List ℕ) (r : ℕ) (s' : List ℕ) → Resets s r s' → (r ≡ 0 → ⊥) → s' ≡ s
  pub part-store : (s m p : List ℕ) (r : ℕ) (s' m' : List ℕ) → Parts s m p r s' m' → (r ≡ 0 → ⊥) → m' ≡ m
  pub part-image : (s m p : List ℕ) (r : ℕ) (s' m' : List ℕ) → Parts s m p r s' m' → AllBytes s → (r ≡ 0 → ⊥) → (r ≡ number_of Long → ⊥)
      → s' ≡ s
  pub part-overrun : (s m p : List ℕ) (r : ℕ) (s' m' : List ℕ) → Parts s m p r s' m' → r ≡ number_of Long
      → s' ≡ serial_image.put (overran (serial_image.get s))
  pub request-image : (s m : List ℕ) (form reading : ℕ) (out : List ℕ) (r : ℕ) (s' out' : List ℕ)
      → EndsRequest s m form reading out r s' out'
      → AllBytes s → (GetsToReading s m → ⊥) → s' ≡ s
  -- an end of which not even the arrival is asked: no image, no such form or reading, a struct of another length
  pub request-unasked : (s m : List ℕ) (form reading : ℕ) (out : List ℕ) (r : ℕ) (s' out' : List ℕ)
      → EndsRequest s m form reading out r s' out'
      → (eqb (length out) 296 && may_end s form reading) ≡ false → s' ≡ s
  pub request-marked : (s m : List ℕ) (form reading : ℕ) (out : List ℕ) (r : ℕ) (s' out' : List ℕ)
      → EndsRequest s m form reading out r s' out'
      → may_end s form reading ≡ true → length out ≡ 296 → GetsToReading s m → s' ≡ serial_image.put (end_marked (serial_image.get s))
  pub request-result : (s m : List ℕ) (form reading : ℕ) (out : List ℕ) (r : ℕ) (s' out' : List ℕ)
      → EndsRequest s m form reading out r s' out'
      → (r ≡ 0 → ⊥) → out' ≡ zeroed 296 out
  pub configuration-image : (s m : List ℕ) (form reading : ℕ) (out : List ℕ) (r : ℕ) (s' out' : List ℕ)
      → EndsConfiguration s m form reading out r s' out' → AllBytes s → (GetsToReading s m → ⊥) → s' ≡ s
  pub configuration-unasked : (s m : List ℕ) (form reading : ℕ) (out : List ℕ) (r : ℕ) (s' out' : List ℕ)
      → EndsConfiguration s m form reading out r s' out' → (eqb (length out) 570 && may_end s form reading) ≡ false → s' ≡ s
  pub configuration-marked : (s m : List ℕ) (form reading : ℕ) (out : List ℕ) (r : ℕ) (s' out' : List ℕ)
      → EndsConfiguration s m form reading out r s' out' → may_end s form reading ≡ true → length out ≡ 570 → GetsToReading s m
      → s' ≡ serial_image.put (end_marked (serial_image.get s))
  pub configuration-result : (s m : List ℕ) (form reading : ℕ) (out : List ℕ) (r : ℕ) (s' out' : List ℕ)
      → EndsConfiguration s m form reading out r s' out' → (r ≡ 0 → ⊥) → out' ≡ zeroed 570 out
