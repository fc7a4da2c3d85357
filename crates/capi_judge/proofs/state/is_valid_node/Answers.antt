-- An image comes first; then four tests in a row, the first that fails decides.
use mathlib.Core.Path.{ap, ap₂, ◌∙◌}
use native.Mathlib.Omega.{arith}
use Rattle.image.proofs.Lent.{long}
use Rattle.lemmas.specs.logic.Tests.{is_true, is_false}
use Rattle.node_attempt.specs.Attempt as attempt
use Rattle.node_attempt.specs.declared.attempt.Attempt.{Attempt}
use Rattle.node_image.specs.Node.{node_image}
use Rattle.node_parameters.specs.Lease.{valid_address}
use Rattle.capi_judge.proofs.Judged.{sets-not, attempt-not, address-not, others-so}
use Rattle.capi_judge.proofs.state.is_valid_node.Goals as goal

pub sets_valid-requires : goal.sets_valid-requires
sets_valid-requires c =
    long node_image c.args.s.now (is_true c.is_node.ensures c.if-not-is_node.false)

pub returns-then-not-sets_valid : goal.returns-then-not-sets_valid
returns-then-not-sets_valid c =
    sets-not c.args.s.now (is_true c.is_node.ensures c.if-not-is_node.false)
    (is_false c.sets_valid.ensures c.if-not-sets_valid.true)

pub attempt_at-attempt-requires : goal.attempt_at-attempt-requires
attempt_at-attempt-requires c =
    let many = long node_image c.args.s.now (is_true c.is_node.ensures c.if-not-is_node.false) in
    omega (arith, many)

pub returns-then-not-valid : goal.returns-then-not-valid
returns-then-not-valid c =
    attempt-not c.args.s.now (is_true c.is_node.ensures c.if-not-is_node.false)
    (is_true c.sets_valid.ensures c.if-not-sets_valid.false)
    (is_false (c.valid.ensures ∙ ap attempt.valid c.attempt_at-attempt.ensures) c.if-not-valid.true)

pub held_address_at-requires : goal.held_address_at-requires
held_address_at-requires c =
    let many = long node_image c.args.s.now (is_true c.is_node.ensures c.if-not-is_node.false) in
    omega (arith, many)

pub returns-then-not-valid-2 : goal.returns-then-not-valid-2
returns-then-not-valid-2 c =
    address-not c.args.s.now (is_true c.is_node.ensures c.if-not-is_node.false)
    (is_true c.sets_valid.ensures c.if-not-sets_valid.false)
    (is_true (c.valid.ensures ∙ ap attempt.valid c.attempt_at-attempt.ensures) c.if-not-valid.false)
    (is_false (c.valid-2.ensures
    ∙ ap₂ valid_address (ap (λ (a : Attempt). a.clock) c.attempt_at-attempt.ensures) c.held_address_at.ensures)
    c.if-not-valid-2.true)

pub others_valid-requires : goal.others_valid-requires
others_valid-requires c =
    long node_image c.args.s.now (is_true c.is_node.ensures c.if-not-is_node.false)

pub returns : goal.returns
returns c =
    others-so c.args.s.now (is_true c.is_node.ensures c.if-not-is_node.false)
    (is_true c.sets_valid.ensures c.if-not-sets_valid.false)
    (is_true (c.valid.ensures ∙ ap attempt.valid c.attempt_at-attempt.ensures) c.if-not-valid.false)
    (is_true (c.valid-2.ensures
    ∙ ap₂ valid_address (ap (λ (a : Attempt). a.clock) c.attempt_at-attempt.ensures) c.held_address_at.ensures)
    c.if-not-valid-2.false)
    c.others_valid.ensures
