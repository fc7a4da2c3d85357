-- The numbers of a part and of an end, by the three tests of its decision; behind them comes the reading's own number.
use Rattle.std.specs.Prelude.{Err}
use Prim.Native.Nat.{ℕ, zero, suc}
use mathlib.Core.Path.{◌≡◌, refl, ◌∙◌}
use mathlib.Core.Bool.{Bool, true, false, cond, not}
use mathlib.Core.List.{List, [], ◌∷◌}
use lib.ListN.{length, take}
use Rattle.refusal.specs.Order.{refused_if, in_order}
use Rattle.refusal.specs.Refusal.{number_of}
use Rattle.refusal.specs.Verdict.{verdict_number}
use Rattle.refusal.specs.declared.Refusal.{Refusal}
use Rattle.refusal.specs.declared.Refusal.TheVariants.{Long, Phase, Range}
use Rattle.refusal.specs.Verdict.{Verdict}
use Rattle.cbor.specs.Strict.{head_by}
use Rattle.cojp.specs.Configuration.{refuse_configuration, read_configuration_by}
use Rattle.cojp.specs.Request.{refuse_request, read_request_by}
use Rattle.cojp.specs.declared.configuration.ConfigurationRead.{ConfigurationRead}
use Rattle.cojp.specs.declared.request.RequestRead.{RequestRead}
use Rattle.cojp_serial.specs.State.{valid, passes, decision_of, decision_number, part_answer, end_read}
use Rattle.cojp_serial.specs.Calls.{Reader, request, configuration, sending, ending, Held, decision_on, whole_read, told, verdict_in}
use Rattle.cojp_serial.specs.Laws.{refusals_of, NumbersInOrder}
use Rattle.cojp_serial.specs.declared.state.SerialState.{SerialState}
use Rattle.cojp_serial.specs.declared.state.PartDecision.{PartDecision}
use Rattle.cojp_serial.specs.declared.state.PartDecision.TheVariants.{Outside, Overrun, Ended, Open}

-- the three tests, and what they decide
abbrev decided : Bool → Bool → Bool → PartDecision
decided x y z = cond x Outside (cond y Overrun (cond z Ended Open))

abbrev tests : Bool → Bool → Bool → List ℕ → List ℕ
tests x y z rest = refused_if x (number_of Range) ∷ refused_if y (number_of Long) ∷ refused_if z (number_of Phase) ∷ rest

decision-number : (x y z : Bool) → decision_number (decided x y z) ≡ in_order (tests x y z [])
decision-number true y z = refl
decision-number false true z = refl
decision-number false false true = refl
decision-number false false false = refl

part-number : (x : PartDecision) (a : SerialState) (n : ℕ) → verdict_number (part_answer x a n).verdict ≡ decision_number x
part-number Outside a n = refl
part-number Overrun a n = refl
part-number Ended a n = refl
part-number Open a n = refl

last-number : (n : ℕ) → n ≡ in_order (n ∷ [])
last-number zero = refl
last-number (suc n) = refl

module _ {A : Type 0} (verdict : A → Verdict) (refuse : Refusal → A) (fits : (k : Refusal) → verdict (refuse k) ≡ Err k)
    (reader : List ℕ → A) (p : List ℕ) where
  end-number : (x y z : Bool)
      → verdict_number (verdict (end_read refuse reader (decided x y z) p)) ≡ in_order
      (tests x y z (verdict_number (verdict (reader p)) ∷ []))
  end-number true y z = rw (fits Range)
  end-number false true z = rw (fits Long)
  end-number false false true = rw (fits Phase)
  end-number false false false = last-number (verdict_number (verdict (reader p)))

module _ (h : Held) where
  decides : (n : ℕ) → decision_number (decision_on h n) ≡ in_order (refusals_of h n [])
  unfolding decision_of
  decides n = decision-number (not (valid h.state (length h.store))) (passes h.state n) h.state.ended

  parts : (p : List ℕ) → verdict_number (verdict_in (told (sending p) h)) ≡ in_order (refusals_of h (length p) [])
  parts p = part-number (decision_on h (length p)) h.state (length p) ∙ decides (length p)

  ends : (r : Reader)
      → verdict_number (verdict_in (told (ending r) h))
      ≡ in_order (refusals_of h 0 (verdict_number (verdict_in (whole_read r (take h.state.arrived h.store))) ∷ []))
  unfolding decision_of
  ends (request v strict) =
      end-number (λ (x : RequestRead). x.verdict) refuse_request (λ k. refl) (read_request_by v (head_by strict))
      (take h.state.arrived h.store) (not (valid h.state (length h.store))) (passes h.state 0) h.state.ended
  ends (configuration v strict) =
      end-number (λ (x : ConfigurationRead). x.verdict) refuse_configuration (λ k. refl) (read_configuration_by v (head_by strict))
      (take h.state.arrived h.store) (not (valid h.state (length h.store))) (passes h.state 0) h.state.ended

pub numbers-in-order : NumbersInOrder
numbers-in-order = record { decides = decides; parts = parts; ends = ends }
