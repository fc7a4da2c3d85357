-- A node's join attempt: its phase, its clock and its timing, which may stand together, and how an attempt starts.
use Rattle.std.specs.Prelude.{ℕ, zero, suc, ◌/◌, ◌%◌, Bool, true, false, cond, not, ◌&&◌, ◌||◌, leb, eqb, Ok, Err}
use Rattle.refusal.specs.declared.Refusal.TheVariants as refusal
use Rattle.refusal.specs.Verdict.{Verdict}
use Rattle.node_attempt.specs.declared.attempt.Attempt.{Attempt}
use Rattle.node_attempt.specs.declared.attempt.Phase.{Phase}
use Rattle.node_attempt.specs.declared.attempt.Phase.TheVariants.{Idle, Waiting, Joined, GaveUp}

-- the phases that calls belong to
abbrev pub is_waiting : Phase → Bool
is_waiting Idle = false
is_waiting Waiting = true
is_waiting Joined = false
is_waiting GaveUp = false

abbrev pub is_joined : Phase → Bool
is_joined Idle = false
is_joined Waiting = false
is_joined Joined = true
is_joined GaveUp = false

abbrev pub attempt : Phase → ℕ → ℕ → ℕ → ℕ → Attempt
attempt phase clock sent timeout count = record { phase = phase; clock = clock; sent = sent; timeout = timeout; count = count }

-- of a node that was just made
abbrev pub idle : Attempt
idle = attempt Idle 0 0 0 0

-- ---- which may stand together
-- a first timeout is 10,000 to 15,000 ms
abbrev pub first_timeout : ℕ → Bool
first_timeout timeout = (leb 10000 timeout && leb timeout 15000)

-- a permitted first timeout doubled so many times
abbrev pub timeout_after : ℕ → ℕ → Bool
timeout_after zero timeout = first_timeout timeout
timeout_after (suc count) timeout = (eqb (timeout % 2) 0 && timeout_after count (timeout / 2))

-- while waiting, doubled once per count; in another phase the timeout is not judged
abbrev pub valid_timeout : Attempt → Bool
valid_timeout a = (not (is_waiting a.phase) || timeout_after a.count a.timeout)

-- the counter is at most 4, and the last sending was not after the clock
unfoldable pub valid : Attempt → Bool
valid a = (leb a.count 4 && leb a.sent a.clock && valid_timeout a)

-- ---- starting: RANGE: the attempt; CLOCK, PHASE; RANGE: the timeout
unfoldable pub may_start : Attempt → ℕ → ℕ → Verdict
may_start a time timeout =
    cond (valid a)
    (cond (leb a.clock time)
    (cond (is_waiting a.phase)
    (Err refusal.Phase)
    (cond (first_timeout timeout) (Ok tt) (Err refusal.Range)))
    (Err refusal.Clock))
    (Err refusal.Range)

-- the attempt that starts: waiting, the counter 0
abbrev pub waiting_from : ℕ → ℕ → Attempt
waiting_from time timeout = attempt Waiting time time timeout 0
