-- One call from C does to the image what the call on the arrival does to the arrival: a call leaves the count, or takes a part where no
-- more than 256 bytes come together, so an image can hold it again.
use Prim.Native.Nat.{ℕ, zero, suc, ◌+◌, ◌≤◌}
use mathlib.Core.Path.{◌≡◌, refl, ap, ap₂, sym, ◌∙◌, subst}
use mathlib.Core.Bool.{Bool, true, false, cond, not, ◌||◌}
use mathlib.Core.List.{List}
use native.Mathlib.Omega.{arith}
use borrow.Author.Tests.{eq-eqb, ltb-false, lt-leb}
use lib.Dec.{leb, ltb}
use lib.ListN.{length, replicate}
use Rattle.refusal.specs.Verdict.{verdict_number}
use Rattle.refusal.specs.Verdict.{Verdict}
use Rattle.image.specs.Effects.{on_accept}
use Rattle.image.specs.Part.{RoundTrips, is_image}
use Rattle.cbor.specs.Strict.{head_by}
use Rattle.cojp.specs.Configuration.{read_configuration_by}
use Rattle.cojp.specs.Request.{read_request_by}
use Rattle.cojp.specs.declared.configuration.ConfigurationRead.{ConfigurationRead}
use Rattle.cojp.specs.declared.request.RequestRead.{RequestRead}
use Rattle.protocol_version.specs.declared.Version.{Version}
use Rattle.protocol_version.specs.declared.Version.TheVariants.{Draft, Published}
use Rattle.cojp_serial.specs.State.{empty_state, valid, decision_of, part_answer, part_store, end_state, request_end, configuration_end}
use Rattle.cojp_serial.specs.Calls.{Reader, request, configuration, ending, Held, decision_on}
use Rattle.cojp_serial.specs.declared.state.SerialState.{SerialState}
use Rattle.cojp_serial.specs.declared.state.PartDecision.{PartDecision}
use Rattle.cojp_serial.specs.declared.state.PartDecision.TheVariants.{Outside, Overrun, Ended, Open}
use Rattle.cojp_serial.specs.declared.configuration.ConfigurationEnd.{ConfigurationEnd}
use Rattle.cojp_serial.specs.declared.request.RequestEnd.{RequestEnd}
use Rattle.object_image.specs.Codes.{bool_part}
use Rattle.object_image.specs.Configuration.{configuration_image}
use Rattle.object_image.specs.Request.{request_image}
use Rattle.payload_calls.specs.Asked.{is_reading}
use Rattle.payload_calls.specs.Read.{request_asked, configuration_asked}
use Rattle.serial_calls.specs.Ends.{may_end, Ends, request_ended, configuration_ended}
use Rattle.serial_calls.specs.Serial.{serial_image}
use Rattle.pothatch_laws.specs.Runs.{Lent, lent}
use Rattle.pothatch_laws.specs.Serial.{Call, resetting, sending, ending-request, ending-configuration, SerialOutput}
use Rattle.pothatch_laws.specs.Serial.{serial_output, Begun, Sent, EndedRequest, EndedConfiguration, Did, Own, none}
use Rattle.pothatch_laws.specs.Serial.{own, ends, told_by, left_by, tells, after, holding, shown, SerialRuns}
use Rattle.pothatch_laws.proofs.Following.{Step, runs, runs-from}
use Rattle.pothatch_laws.proofs.Handing.{right-number, right-result, wrong-number, wrong_result}
use Rattle.pothatch_laws.proofs.Images.{put-long, put_is, put-got, got-fits, got-put}

-- ---- the lent bytes stand for an arrival and its store
record StandsFor (h : Held) (x : Lent) : Type 0 where
  fits : serial_image.Fit h.state
  the-image : x.image ≡ serial_image.put h.state
  the-store : x.memory ≡ h.store

seen : (h : Held) (x : Lent) → StandsFor h x → x ≡ shown h
seen h x a = ap₂ lent a.the-image a.the-store

told-as : (t : SerialOutput) {n : ℕ} {s : List ℕ} → t.number ≡ n → t.result ≡ s → t ≡ serial_output n s
told-as t e f = ap₂ serial_output e f

bool-fits : (b : Bool) → bool_part.Fit b
bool-fits true = (omega arith, refl)
bool-fits false = (omega arith, refl)

-- ---- no more than 256
abbrev course_number : PartDecision → ℕ
course_number Outside = 0
course_number Overrun = 1
course_number Ended = 2
course_number Open = 3

unlike : (c : PartDecision) {n : ℕ} → course_number c ≡ n → c ≡ Open → leb 3 n ≡ false → ⊥
unlike c e f g =
    let z : ◌≡◌ {A = ℕ} 3 _ = sym (ap course_number f) ∙ e in
    let w : true ≡ false = ap (leb 3) z ∙ g in
    absurd (let u : ◌≡◌ {A = ℕ} 0 1 = cc in omega arith)

not-passed : (v o l e : Bool) → cond (not v) Outside (cond (o || l) Overrun (cond e Ended Open)) ≡ Open → l ≡ false
not-passed v o false e h = refl
not-passed false o true e h = absurd (unlike Outside refl h refl)
not-passed true true true e h = absurd (unlike Overrun refl h refl)
not-passed true false true e h = absurd (unlike Overrun refl h refl)

room-left : (a : SerialState) (lent n : ℕ) → decision_of a lent n ≡ Open → a.arrived + n ≤ 256
unfolding decision_of
room-left a lent n e = ltb-false 256 (a.arrived + n) (not-passed (valid a lent) a.overrun (ltb 256 (a.arrived + n)) a.ended e)

pub part-fits : (c : PartDecision) (a : SerialState) (lent n : ℕ) → decision_of a lent n ≡ c → serial_image.Fit a
    → serial_image.Fit (part_answer c a n).state
part-fits Outside a lent n e f = f
part-fits Overrun a lent n e f = (f.0, (bool-fits true, f.1.1))
part-fits Ended a lent n e f = f
part-fits Open a lent n e f = (omega (arith, room-left a lent n e), f.1)

pub end_fits : (c : PartDecision) (a : SerialState) → serial_image.Fit a → serial_image.Fit (end_state c a)
end_fits Outside a f = f
end_fits Overrun a f = f
end_fits Ended a f = f
end_fits Open a f = (f.0, (f.1.0, bool-fits true))

pub none-fits : serial_image.Fit empty_state
none-fits = (omega arith, (bool-fits false, bool-fits false))

-- ---- the reading that the numbers ask for
data Asks (form reading : ℕ) : Type 0 where
  for-one : (v : Version) (strict : Bool) → is_reading form reading ≡ true → request_asked form reading ≡ read_request_by v (head_by strict)
      → configuration_asked form reading ≡ read_configuration_by v (head_by strict)
      → ((r : Version → Bool → Reader) → ends r form reading ≡ own (ending (r v strict)))
      → Asks form reading
  for-none : is_reading form reading ≡ false → ((r : Version → Bool → Reader) → ends r form reading ≡ none) → Asks form reading

asks : (form reading : ℕ) → Asks form reading
asks zero zero = for-one Draft false refl refl refl (λ r. refl)
asks zero (suc zero) = for-one Draft true refl refl refl (λ r. refl)
asks zero (suc (suc n)) = for-none (lt-leb (suc (suc n)) 1 (omega arith)) (λ r. refl)
asks (suc zero) zero = for-one Published false refl refl refl (λ r. refl)
asks (suc zero) (suc zero) = for-one Published true refl refl refl (λ r. refl)
asks (suc zero) (suc (suc n)) = for-none (lt-leb (suc (suc n)) 1 (omega arith)) (λ r. refl)
asks (suc (suc f)) reading = for-none (rw (lt-leb (suc (suc f)) 1 (omega arith))) (λ r. refl)

-- ---- an end that is lent a struct of its size
module _ {n : ℕ} {right : Bool} {v : Verdict} {object : List ℕ} {a : SerialState} {s out : List ℕ} {r : ℕ} {s' out' : List ℕ}
    (d : Ends n right v object a s out r s' out')
    (l : length out ≡ n) where
  end-image : right ≡ true → s' ≡ serial_image.put a
  end-image e = rw (eq-eqb (length out) n l, e) at d.serial

  end_stays : right ≡ false → s' ≡ s
  end_stays e = rw (eq-eqb (length out) n l, e) at d.serial

-- ---- what is handed back
abbrev request_result : RequestEnd → List ℕ
request_result z = on_accept z.read.verdict (replicate 296 0) (request_image.put z.read.request)

abbrev configuration_result : ConfigurationEnd → List ℕ
configuration_result z = on_accept z.read.verdict (replicate 570 0) (configuration_image.put z.read.configuration)

-- ---- each call
record Came (o : Own) (n : ℕ) (h : Held) (t : SerialOutput) (y : Lent) : Type 0 where
  same : t ≡ told_by o n h
  stands : StandsFor (left_by o h) y

reset-step : (h : Held) (x : Lent) (t : SerialOutput) (y : Lent) → length x.image ≡ 6 → x.memory ≡ h.store → Begun x t y
    → Step tells after StandsFor resetting h t y
reset-step h x t y l e d =
    record {
      same = told-as t (rw (eq-eqb (length x.image) 6 l) at d.resets.number) d.result;
      stands = record {
        fits = none-fits;
        the-image = rw (eq-eqb (length x.image) 6 l) at d.resets.serial;
        the-store = d.memory ∙ e;
      };
    }

module _ (laws : RoundTrips serial_image) (h : Held) (x : Lent) (a : StandsFor h x) where
  is : is_image serial_image x.image ≡ true
  is = ap (is_image serial_image) a.the-image ∙ put_is serial_image laws h.state a.fits

  got : serial_image.get x.image ≡ h.state
  got = ap serial_image.get a.the-image ∙ put-got serial_image laws h.state a.fits

  may : (form reading : ℕ) {b : Bool} → is_reading form reading ≡ b → may_end x.image form reading ≡ b
  may form reading e = rw is e

  part_step : (p : List ℕ) (t : SerialOutput) (y : Lent) → Sent p x t y → Step tells after StandsFor (sending p) h t y
  part_step p t y d =
      record {
        same = told-as t (rw (is, got, a.the-store) at d.parts.number) d.result;
        stands = record {
          fits = part-fits (decision_on h (length p)) h.state (length h.store) (length p) refl a.fits;
          the-image = rw (is, got, a.the-store) at d.parts.serial;
          the-store =
              (rw (is, got, a.the-store) at d.parts.store)
              ∙ ap (λ (b : SerialState). part_store (decision_on h (length p)) b.arrived p h.store) got;
        };
      }

  unmoved : {y : Lent} → y.image ≡ x.image → y.memory ≡ x.memory → StandsFor h y
  unmoved e f = record { fits = a.fits; the-image = e ∙ a.the-image; the-store = f ∙ a.the-store }

  module _ (form reading : ℕ) (t : SerialOutput) (y : Lent) (d : EndedRequest form reading x t y) where
    request-as : (f : List ℕ → RequestRead) → request_asked form reading ≡ f
        → request_ended x.image x.memory form reading ≡ request_end f h.state h.store
    request-as f e =
        ap (λ (g : List ℕ → RequestRead). request_end g (serial_image.get x.image) x.memory) e
        ∙ ap₂ (λ (b : SerialState) (m : List ℕ). request_end f b m) got a.the-store

    request-follows : Asks form reading → Came (ends request form reading) 296 h t y
    request-follows (for-one v strict i q w o) =
        let e = request-as (read_request_by v (head_by strict)) q in
        let m = may form reading i in
        subst (λ (c : Own). Came c 296 h t y) (sym (o request))
        (record {
          same =
              told-as t (right-number d.ends.hands d.fits m) (right-result d.ends.hands d.fits m)
              ∙ ap (λ (z : RequestEnd). serial_output (verdict_number z.read.verdict) (request_result z)) e;
          stands = record {
            fits = end_fits (decision_on h 0) h.state a.fits;
            the-image = end-image d.ends d.fits m ∙ ap (λ (z : RequestEnd). serial_image.put z.state) e;
            the-store = d.memory ∙ a.the-store;
          };
        })
    request-follows (for-none i o) =
        let m = may form reading i in
        subst (λ (c : Own). Came c 296 h t y) (sym (o request))
        (record {
          same = told-as t (wrong-number d.ends.hands d.fits m) (wrong_result d.ends.hands d.fits m);
          stands = unmoved (end_stays d.ends d.fits m) d.memory;
        })

  module _ (form reading : ℕ) (t : SerialOutput) (y : Lent) (d : EndedConfiguration form reading x t y) where
    configuration-as : (f : List ℕ → ConfigurationRead) → configuration_asked form reading ≡ f
        → configuration_ended x.image x.memory form reading ≡ configuration_end f h.state h.store
    configuration-as f e =
        ap (λ (g : List ℕ → ConfigurationRead). configuration_end g (serial_image.get x.image) x.memory) e
        ∙ ap₂ (λ (b : SerialState) (m : List ℕ). configuration_end f b m) got a.the-store

    configuration-follows : Asks form reading → Came (ends configuration form reading) 570 h t y
    configuration-follows (for-one v strict i q w o) =
        let e = configuration-as (read_configuration_by v (head_by strict)) w in
        let m = may form reading i in
        subst (λ (c : Own). Came c 570 h t y) (sym (o configuration))
        (record {
          same =
              told-as t (right-number d.ends.hands d.fits m) (right-result d.ends.hands d.fits m)
              ∙ ap (λ (z : ConfigurationEnd). serial_output (verdict_number z.read.verdict) (configuration_result z)) e;
          stands = record {
            fits = end_fits (decision_on h 0) h.state a.fits;
            the-image = end-image d.ends d.fits m ∙ ap (λ (z : ConfigurationEnd). serial_image.put z.state) e;
            the-store = d.memory ∙ a.the-store;
          };
        })
    configuration-follows (for-none i o) =
        let m = may form reading i in
        subst (λ (c : Own). Came c 570 h t y) (sym (o configuration))
        (record {
          same = told-as t (wrong-number d.ends.hands d.fits m) (wrong_result d.ends.hands d.fits m);
          stands = unmoved (end_stays d.ends d.fits m) d.memory;
        })

  long : length x.image ≡ 6
  long = ap length a.the-image ∙ put-long serial_image laws h.state a.fits

  step : (c : Call) (t : SerialOutput) (y : Lent) → Did c x t y → Step tells after StandsFor c h t y
  step resetting t y d = reset-step h x t y long a.the-store d
  step (sending p) t y d = part_step p t y d
  step (ending-request form reading) t y d =
      let p = request-follows form reading t y d (asks form reading) in
      record { same = p.same; stands = p.stands }
  step (ending-configuration form reading) t y d =
      let p = configuration-follows form reading t y d (asks form reading) in
      record { same = p.same; stands = p.stands }

pub serial-runs : RoundTrips serial_image → SerialRuns
serial-runs laws =
    record {
      from-reset = λ cs h x ts z l e r.
          runs-from Did tells after StandsFor shown seen (λ c j w t y a d. step laws j w a c t y d) resetting cs h x ts z
          (λ t y d. reset-step h x t y l e d)
          r;
      from-image = λ cs x ts z b i r.
          runs Did tells after StandsFor shown seen (λ c j w t y a d. step laws j w a c t y d) cs (holding x.image x.memory) x ts z
          (record {
            fits = got-fits serial_image laws x.image b i;
            the-image = sym (got-put serial_image laws x.image b i);
            the-store = refl;
          })
          r;
    }
