-- Demand 1 for the join attempt: a refused poll leaves it, and one outside its limits answers RANGE (13) to each call.
use Rattle.std.specs.Prelude.{ℕ, ◌≡◌, false, Err}
use Rattle.refusal.specs.Verdict.{verdict_number}
use Rattle.refusal.specs.declared.Refusal.{Refusal}
use Rattle.node_attempt.specs.Attempt.{valid, may_start}
use Rattle.node_attempt.specs.Poll.{poll, due_verdict, due_number}
use Rattle.node_attempt.specs.declared.attempt.Attempt.{Attempt}

pub record AttemptDemand1 : Type 0 where
  pub poll-refused : (a : Attempt) (time : ℕ) (k : Refusal) → due_verdict (poll a time).due ≡ Err k → (poll a time).attempt ≡ a
  pub poll-invalid : (a : Attempt) (time : ℕ) → valid a ≡ false → due_number (poll a time).due ≡ 13
  pub start-invalid : (a : Attempt) (time timeout : ℕ) → valid a ≡ false → verdict_number (may_start a time timeout) ≡ 13
