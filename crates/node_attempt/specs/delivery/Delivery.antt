-- What a configuration comes in: when one may be handed over, and what it does to the join attempt.
use Rattle.std.specs.Prelude.{ℕ, Bool, true, false, cond, leb, Ok, Err}
use Rattle.refusal.specs.declared.Refusal.TheVariants as refusal
use Rattle.refusal.specs.Verdict.{Verdict}
use Rattle.node_attempt.specs.Attempt.{is_waiting, is_joined, attempt, valid}
use Rattle.node_attempt.specs.declared.attempt.Attempt.{Attempt}
use Rattle.node_attempt.specs.declared.attempt.Phase.{Phase}
use Rattle.node_attempt.specs.declared.attempt.Phase.TheVariants as phase
use Rattle.node_attempt.specs.declared.delivery.Delivery.{Delivery}
use Rattle.node_attempt.specs.declared.delivery.Delivery.TheVariants.{JoinAnswer, Update}

-- the time is the new clock, and an accepted join answer makes the node joined
abbrev pub phase_after : Delivery → Phase → Phase
phase_after JoinAnswer p = phase.Joined
phase_after Update p = p

abbrev pub attempt_after : Delivery → Attempt → ℕ → Attempt
attempt_after delivery a time = attempt (phase_after delivery a.phase) time a.sent a.timeout a.count

-- a join answer belongs to waiting, an update to joined
abbrev pub belongs : Delivery → Phase → Bool
belongs JoinAnswer p = is_waiting p
belongs Update p = is_joined p

-- only a join answer can owe a network identifier
abbrev pub asks_identifier : Delivery → Bool
asks_identifier JoinAnswer = true
asks_identifier Update = false

-- whether a payload of so many bytes may be handed over: RANGE: the attempt; LONG, CLOCK, PHASE
unfoldable pub may_come : Delivery → Attempt → ℕ → ℕ → Verdict
may_come delivery a time len =
    cond (valid a)
    (cond (leb len 256)
    (cond (leb a.clock time)
    (cond (belongs delivery a.phase) (Ok tt) (Err refusal.Phase))
    (Err refusal.Clock))
    (Err refusal.Long))
    (Err refusal.Range)
