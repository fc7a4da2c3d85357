-- Polling a join attempt: when the request is to be sent again, and when the node gives up.
use Rattle.refusal.specs.declared.Refusal.{Refusal}
use Rattle.std.specs.Prelude.{ℕ, zero, suc, ◌+◌, ◌-◌, ◌*◌, ◌≤◌, ◌≡◌, Bool, true, false, cond, List, [], ◌∷◌, leb, ltb, Result, Ok, Err}
use Rattle.refusal.specs.Refusal.{number_of}
use Rattle.refusal.specs.declared.Refusal.TheVariants as refusal
use Rattle.refusal.specs.Verdict.{Verdict, verdict_of}
use Rattle.node_attempt.specs.Attempt.{is_waiting, attempt, first_timeout, valid, waiting_from}
use Rattle.node_attempt.specs.declared.attempt.Attempt.{Attempt}
use Rattle.node_attempt.specs.declared.attempt.Phase.TheVariants as phase
use Rattle.node_attempt.specs.declared.poll.Due.{Due}
use Rattle.node_attempt.specs.declared.poll.Due.TheVariants.{NotYet, SendAgain, GaveUp}
use Rattle.node_attempt.specs.declared.poll.AttemptResult.{AttemptResult}

abbrev pub step : Result Due Refusal → Attempt → AttemptResult
step due a = record { due = due; attempt = a }

-- the step that is due: the request goes out again, up to 4 times
unfoldable pub stepped : Attempt → ℕ → AttemptResult
stepped a time =
    cond (ltb a.count 4)
    (step (Ok SendAgain) (attempt a.phase time time (2 * a.timeout) (a.count + 1)))
    (step (Ok GaveUp) (attempt phase.GaveUp time a.sent a.timeout a.count))

-- RANGE: the attempt; CLOCK, PHASE; a step is due once the time since the last sending has reached the timeout
unfoldable pub poll : Attempt → ℕ → AttemptResult
poll a time =
    cond (valid a)
    (cond (leb a.clock time)
    (cond (is_waiting a.phase)
    (cond (leb a.timeout (time - a.sent)) (stepped a time) (step (Ok NotYet) (attempt a.phase time a.sent a.timeout a.count)))
    (step (Err refusal.Phase) a))
    (step (Err refusal.Clock) a))
    (step (Err refusal.Range) a)

-- the answer in document 01's terms: its verdict, and the refusal's number, 0 where there is none
abbrev pub due_verdict : Result Due Refusal → Verdict
due_verdict due = verdict_of due

abbrev pub due_number : Result Due Refusal → ℕ
due_number (Err k) = number_of k
due_number (Ok due) = 0

-- nothing is due yet
abbrev pub not_yet : Result Due Refusal → Bool
not_yet (Err k) = false
not_yet (Ok NotYet) = true
not_yet (Ok SendAgain) = false
not_yet (Ok GaveUp) = false

-- the request is to be sent again
abbrev pub sends_again : Result Due Refusal → Bool
sends_again (Err k) = false
sends_again (Ok NotYet) = false
sends_again (Ok SendAgain) = true
sends_again (Ok GaveUp) = false

-- the node gave up
abbrev pub gives_up : Result Due Refusal → Bool
gives_up (Err k) = false
gives_up (Ok NotYet) = false
gives_up (Ok SendAgain) = false
gives_up (Ok GaveUp) = true

-- ---- giving up
-- when a waiting attempt's next step is due
abbrev pub due_at : Attempt → ℕ
due_at a = a.sent + a.timeout

-- the attempt after so many polls, each exactly when due, and their answers
abbrev pub after_due : ℕ → Attempt → Attempt
after_due zero a = a
after_due (suc polls) a = after_due polls (poll a (due_at a)).attempt

abbrev pub answers_due : ℕ → Attempt → List (Result Due Refusal)
answers_due zero a = []
answers_due (suc polls) a = (poll a (due_at a)).due ∷ answers_due polls (poll a (due_at a)).attempt

-- polled exactly when due, an attempt with first timeout t sends four times more, and gives up 31t after its start: 310,000 to 465,000 ms
pub record GaveUpAfter (time timeout : ℕ) : Type 0 where
  pub answers : answers_due 5 (waiting_from time timeout) ≡ Ok SendAgain ∷ Ok SendAgain ∷ Ok SendAgain ∷ Ok SendAgain ∷ Ok GaveUp ∷ []
  pub end : (after_due 5 (waiting_from time timeout)).phase ≡ phase.GaveUp
  pub at : (after_due 5 (waiting_from time timeout)).clock ≡ time + 31 * timeout
  pub earliest : time + 310000 ≤ (after_due 5 (waiting_from time timeout)).clock
  pub latest : (after_due 5 (waiting_from time timeout)).clock ≤ time + 465000

abbrev pub AttemptGivesUp : Type 0
AttemptGivesUp = (time timeout : ℕ) → first_timeout timeout ≡ true → GaveUpAfter time timeout
