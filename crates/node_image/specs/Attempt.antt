-- A join attempt in an image, 26 bytes: phase 1 (0 idle, 1 waiting, 2 joined, 3 gave up), clock 8, last sending 8, timeout 8,
-- retransmissions 1.
use Rattle.std.specs.Prelude.{ℕ, zero, suc}
use Rattle.image.specs.Part.{Part, byte, number, code, both, viewed}
use Rattle.node_attempt.specs.Attempt.{attempt}
use Rattle.node_attempt.specs.declared.attempt.Attempt.{Attempt}
use Rattle.node_attempt.specs.declared.attempt.Phase.{Phase}
use Rattle.node_attempt.specs.declared.attempt.Phase.TheVariants.{Idle, Waiting, Joined, GaveUp}

abbrev pub phase_number : Phase → ℕ
phase_number Idle = 0
phase_number Waiting = 1
phase_number Joined = 2
phase_number GaveUp = 3

abbrev pub phase_of : ℕ → Phase
phase_of zero = Idle
phase_of (suc zero) = Waiting
phase_of (suc (suc zero)) = Joined
phase_of (suc (suc (suc n))) = GaveUp

abbrev pub phase_part : Part Phase
phase_part = code phase_number phase_of 3

abbrev pub AttemptFields : Type 0
AttemptFields = Phase × (ℕ × (ℕ × (ℕ × ℕ)))

abbrev pub attempt_fields : Part AttemptFields
attempt_fields = both phase_part (both (number 8) (both (number 8) (both (number 8) byte)))

abbrev pub attempt_to : AttemptFields → Attempt
attempt_to x = attempt x.0 x.1.0 x.1.1.0 x.1.1.1.0 x.1.1.1.1

abbrev pub attempt_from : Attempt → AttemptFields
attempt_from a = (a.phase, (a.clock, (a.sent, (a.timeout, a.count))))

abbrev pub attempt_part : Part Attempt
attempt_part = viewed attempt_fields attempt_to attempt_from
