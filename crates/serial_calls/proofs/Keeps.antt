-- Only a part that is LONG, and an end that gets to its reading, leave another arrival beside a refusal; what was loaded is stored as it
-- stood.
use Prim.Native.Nat.{ℕ}
use mathlib.Core.Path.{◌≡◌, refl, sym, ◌∙◌}
use mathlib.Core.Bool.{Bool, true, false, cond, ◌&&◌}
use mathlib.Core.List.{List}
use native.Mathlib.Omega.{arith}
use borrow.Author.Tests.{eq-eqb}
use lib.Dec.{eqb}
use lib.ListN.{length}
use Rattle.lemmas.specs.logic.Tests.{both_left}
use Rattle.refusal.specs.Refusal.{number_of}
use Rattle.refusal.specs.Verdict.{verdict_number}
use Rattle.refusal.specs.declared.Refusal.TheVariants.{Long}
use Rattle.refusal.specs.Verdict.{Verdict}
use Rattle.image.specs.Effects.{checked_first}
use Rattle.image.proofs.Lent.{kept, hands-emptied}
use Rattle.image.specs.Part.{AllBytes, RoundTrips, is_image}
use Rattle.cojp_serial.specs.State.{empty_state, overran, end_marked, part_answer, part_store, end_state}
use Rattle.cojp_serial.specs.declared.state.SerialState.{SerialState}
use Rattle.cojp_serial.specs.declared.state.PartDecision.{PartDecision}
use Rattle.cojp_serial.specs.declared.state.PartDecision.TheVariants.{Outside, Overrun, Ended, Open}
use Rattle.object_image.specs.Codes.{bool_part}
use Rattle.payload_calls.specs.Asked.{is_reading}
use Rattle.serial_calls.specs.Ends.{may_end, Ends}
use Rattle.serial_calls.specs.Laws.{SerialRefusals}
use Rattle.serial_calls.specs.Parts.{reset_verdict, part_decision}
use Rattle.serial_calls.specs.Serial.{serial_image}
use Rattle.serial_calls.proofs.Images.{stored-again}

unlike : (m n : ℕ) {r : ℕ} → r ≡ m → r ≡ n → eqb m n ≡ false → ⊥
unlike m n e f g = let h : true ≡ false = sym (eq-eqb m n (sym e ∙ f)) ∙ g in absurd (let z : ◌≡◌ {A = ℕ} 0 1 = cc in omega arith)

-- ---- a part, by its course
module _ (s m p : List ℕ) where
  abbrev number : PartDecision → Bool → ℕ
  number c b = verdict_number (checked_first b (part_answer c (serial_image.get s) (length p)).verdict)

  abbrev image : PartDecision → Bool → List ℕ
  image c b = cond b (serial_image.put (part_answer c (serial_image.get s) (length p)).state) s

  store_by : {r : ℕ} {m' : List ℕ} (c : PartDecision) (b : Bool) → r ≡ number c b
      → m' ≡ cond b (part_store c (serial_image.get s).arrived p m) m → (r ≡ 0 → ⊥) → m' ≡ m
  store_by c false e f h = f
  store_by Outside true e f h = f
  store_by Overrun true e f h = f
  store_by Ended true e f h = f
  store_by Open true e f h = absurd (h e)

  image-by : RoundTrips bool_part → {r : ℕ} {s' : List ℕ} (c : PartDecision) (b : Bool) → is_image serial_image s ≡ b → r ≡ number c b
      → s' ≡ image c b
      → AllBytes s → (r ≡ 0 → ⊥)
      → (r ≡ number_of Long → ⊥) → s' ≡ s
  image-by w c false i e f a h k = f
  image-by w Outside true i e f a h k = f ∙ stored-again w s a i
  image-by w Overrun true i e f a h k = absurd (k e)
  image-by w Ended true i e f a h k = f ∙ stored-again w s a i
  image-by w Open true i e f a h k = absurd (h e)

  overrun-by : {r : ℕ} {s' : List ℕ} (c : PartDecision) (b : Bool) → r ≡ number c b → s' ≡ image c b → r ≡ number_of Long
      → s' ≡ serial_image.put (overran (serial_image.get s))
  overrun-by c false e f h = absurd (unlike 13 15 e h refl)
  overrun-by Outside true e f h = absurd (unlike 13 15 e h refl)
  overrun-by Overrun true e f h = f
  overrun-by Ended true e f h = absurd (unlike 16 15 e h refl)
  overrun-by Open true e f h = absurd (unlike 0 15 e h refl)

-- ---- an end, by its course
end-image-by : RoundTrips bool_part → (s : List ℕ) (c : PartDecision) (right b : Bool) {s' : List ℕ}
    → (right ≡ true → is_image serial_image s ≡ true)
    → s' ≡ cond (b && right) (serial_image.put (end_state c (serial_image.get s))) s → AllBytes s → (c ≡ Open → ⊥) → s' ≡ s
end-image-by w s c right false i f a h = f
end-image-by w s c false true i f a h = f
end-image-by w s Outside true true i f a h = f ∙ stored-again w s a (i refl)
end-image-by w s Overrun true true i f a h = f ∙ stored-again w s a (i refl)
end-image-by w s Ended true true i f a h = f ∙ stored-again w s a (i refl)
end-image-by w s Open true true i f a h = absurd (h refl)

module _ {n : ℕ} {right : Bool} {v : Verdict} {object s out : List ℕ} {r : ℕ} {s' out' : List ℕ} where
  end-image : RoundTrips bool_part → (c : PartDecision) → Ends n right v object (end_state c (serial_image.get s)) s out r s' out'
      → (right ≡ true → is_image serial_image s ≡ true)
      → AllBytes s → (c ≡ Open → ⊥) → s' ≡ s
  end-image w c d i a h = end-image-by w s c right (eqb (length out) n) i d.serial a h

  end-unasked : {a : SerialState} → Ends n right v object a s out r s' out' → (eqb (length out) n && right) ≡ false → s' ≡ s
  end-unasked d e = (rw e at d.serial)

  end_marked_lem : (c : PartDecision) → Ends n right v object (end_state c (serial_image.get s)) s out r s' out' → right ≡ true
      → length out ≡ n → c ≡ Open → s' ≡ serial_image.put (end_marked (serial_image.get s))
  end_marked_lem c d i l h = (rw (i, eq-eqb (length out) n l, h) at d.serial)

is-image : (s : List ℕ) (form reading : ℕ) → may_end s form reading ≡ true → is_image serial_image s ≡ true
is-image s form reading e = both_left (is_image serial_image s) (is_reading form reading) e

pub serial-refusals : RoundTrips bool_part → SerialRefusals
serial-refusals w =
    record {
      reset = λ s r s' d h. kept (reset_verdict s) s (serial_image.put empty_state) d.number h d.serial;
      part-store = λ s m p r s' m' d h. store_by s m p (part_decision s m p) (is_image serial_image s) d.number d.store h;
      part-image =
          λ s m p r s' m' d a h k. image-by s m p w (part_decision s m p) (is_image serial_image s) refl d.number d.serial a h k;
      part-overrun = λ s m p r s' m' d h. overrun-by s m p (part_decision s m p) (is_image serial_image s) d.number d.serial h;
      request-image = λ s m form reading out r s' out' d a h. end-image w _ d (is-image s form reading) a h;
      request-unasked = λ s m form reading out r s' out' d e. end-unasked d e;
      request-marked = λ s m form reading out r s' out' d i l h. end_marked_lem _ d i l h;
      request-result = λ s m form reading out r s' out' d h. hands-emptied 296 _ _ _ out r out' d.hands h;
      configuration-image = λ s m form reading out r s' out' d a h. end-image w _ d (is-image s form reading) a h;
      configuration-unasked = λ s m form reading out r s' out' d e. end-unasked d e;
      configuration-marked = λ s m form reading out r s' out' d i l h. end_marked_lem _ d i l h;
      configuration-result = λ s m form reading out r s' out' d h. hands-emptied 570 _ _ _ out r out' d.hands h;
    }
