-- `poll` meets its contract: a valid attempt leaves room for the arithmetic.
use Rattle.node_attempt.proofs.Attempts.{sent-before, timeout-small}
use Rattle.lemmas.specs.logic.Tests.{is_true}
use Rattle.node_attempt.proofs.attempt.Attempt.poll.Goals as goal

pub overflow_sub-time : goal.overflow_sub-time
overflow_sub-time c =
    let valid = is_true c.valid.ensures c.if-not-valid.false in
    sent-before c.args.self c.args.time c.if-time-self.false valid

pub stepped-requires : goal.stepped-requires
stepped-requires c =
    timeout-small c.args.self (is_true c.valid.ensures c.if-not-valid.false)
    (is_true c.is_waiting.ensures c.if-not-is_waiting.false)
