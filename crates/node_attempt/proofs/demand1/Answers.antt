-- Demand 1 for the join attempt: a refusal answers the attempt that was handed in, and the first test is whether it is valid.
use Rattle.node_attempt.specs.Attempt.{may_start}
use Rattle.node_attempt.specs.Poll.{poll}
use Rattle.node_attempt.proofs.Attempts.{poll-untouched}
use Rattle.node_attempt.proofs.demand1.Goals as goal

pub returns : goal.returns
unfolding may_start poll
returns c = record {
  poll-refused = λ a time k e. (poll-untouched a time k e).0;
  poll-invalid = λ a time e. rw e;
  start-invalid = λ a time timeout e. rw e;
}
