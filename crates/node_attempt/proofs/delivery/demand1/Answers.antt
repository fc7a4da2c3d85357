-- Demand 1 for deliveries: the first test is whether the attempt is valid.
use Rattle.node_attempt.specs.delivery.Delivery.{may_come}
use Rattle.node_attempt.proofs.delivery.demand1.Goals as goal

pub returns : goal.returns
unfolding may_come
returns c = λ delivery a time len e. rw e
