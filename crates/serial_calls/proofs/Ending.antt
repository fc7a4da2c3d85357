-- An end reads what arrived by the reading that the numbers ask for, and hands back its object.
use Rattle.std.specs.Prelude.{ℕ, Bool, true, false, not, cond, List, ◌≡◌, refl, eqb, length, replicate}
use Rattle.std.proofs.Common.{ap, ap₂, ◌∙◌, eq-eqb}
use Rattle.refusal.specs.Verdict.{Verdict, verdict_number}
use Rattle.image.specs.Effects.{on_accept}
use Rattle.image.proofs.Lent.{hands-told}
use Rattle.protocol_version.specs.declared.Version.{Version}
use Rattle.cojp_serial.specs.declared.state.SerialState.{SerialState}
use Rattle.payload_calls.specs.Asked.{version_of, by_reading}
use Rattle.serial_calls.specs.Ends.{Ends}
use Rattle.serial_calls.specs.Serial.{serial_image}

-- ---- the reading that is asked for, and what an end by it comes to
module _ {A B : Type 0} (end : (List ℕ → A) → SerialState → B) (ordinary strict : Version → List ℕ → A) (form reading : ℕ) where
  by_test : {x : B} {v : Version} {a : SerialState} (b : Bool) → (not b ≡ false → x ≡ end (ordinary v) a) → (not b ≡ true → x ≡ end (strict v) a)
      → x ≡ end (λ p. cond b (ordinary v p) (strict v p)) a
  by_test true f g = f refl
  by_test false f g = g refl

  pub end_as : {x : B} {v : Version} {s : Bool} {a' a : SerialState} → v ≡ version_of form → s ≡ not (eqb reading 0) → a' ≡ a
      → (s ≡ false → x ≡ end (ordinary v) a') → (s ≡ true → x ≡ end (strict v) a')
      → x ≡ end (λ p. by_reading reading (ordinary (version_of form) p) (strict (version_of form) p)) a
  end_as e f g h k =
      by_test (eqb reading 0) (λ q. h (f ∙ q)) (λ q. k (f ∙ q))
      ∙ ap₂ (λ (w : Version) (b : SerialState). end (λ p. by_reading reading (ordinary w p) (strict w p)) b) e g

-- ---- the end x is the one, b, that the definition names
module _ {E : Type 0} (n : ℕ) (right : Bool) (verdict : E → Verdict) (object : E → List ℕ) (state : E → SerialState) (s out : List ℕ) where
  pub ends_as : {x b : E} {r : ℕ} {s' out' : List ℕ} → length out ≡ n → right ≡ true → x ≡ b → r ≡ verdict_number (verdict x)
      → out' ≡ on_accept (verdict x) (replicate n 0) (object x) → s' ≡ serial_image.put (state x)
      → Ends n right (verdict b) (object b) (state b) s out r s' out'
  ends_as {x} {b} h k e f g i =
      record {
        hands = hands-told n right (verdict b) (object b) out h k
            (f ∙ ap (λ (y : E). verdict_number (verdict y)) e)
            (g ∙ ap (λ (y : E). on_accept (verdict y) (replicate n 0) (object y)) e);
        serial = rw (eq-eqb (length out) n h, k) (i ∙ ap (λ (y : E). serial_image.put (state y)) e);
      }
