-- Demand 1 for deliveries: an attempt outside its limits answers RANGE (13). The answer is a verdict alone, so a refusal has no object.
use Rattle.std.specs.Prelude.{ℕ, ◌≡◌, false}
use Rattle.refusal.specs.Verdict.{verdict_number}
use Rattle.node_attempt.specs.Attempt.{valid}
use Rattle.node_attempt.specs.declared.attempt.Attempt.{Attempt}
use Rattle.node_attempt.specs.delivery.Delivery.{may_come}
use Rattle.node_attempt.specs.declared.delivery.Delivery.{Delivery}

abbrev pub DeliveryDemand1 : Type 0
DeliveryDemand1 =
    (delivery : Delivery) (a : Attempt) (time len : ℕ) → valid a ≡ false → verdict_number (may_come delivery a time len) ≡ 13
