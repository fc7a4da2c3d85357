-- `timeout_after` meets its contract: what is left to halve answers as the whole does.
use Rattle.std.proofs.Common.{◌≡◌, ◌-◌}
use Rattle.node_attempt.specs.Attempt.{timeout_after}
use Rattle.node_attempt.proofs.attempt.timeout_after.Given as goal

abbrev pub invariant-loop : goal.invariant-loop
invariant-loop l = timeout_after l.count l.timeout ≡ timeout_after (l.count - l.counter) l.half
