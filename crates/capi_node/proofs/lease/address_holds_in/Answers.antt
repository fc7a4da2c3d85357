-- The node is judged first; then the clock decides, and the address.
use mathlib.Core.Path.{ap₂, ◌∙◌}
use native.Mathlib.Omega.{arith}
use Rattle.image.proofs.Lent.{long}
use Rattle.lemmas.specs.logic.Tests.{is_false, is_true}
use Rattle.node_image.specs.Node.{node_image}
use Rattle.node_parameters.specs.Lease.{holds_at}
use Rattle.capi_node.proofs.Ranged.{image-so, holds-none, holds-early, holds-valid, holds-expired}
use Rattle.capi_node.proofs.lease.address_holds_in.Goals as goal

pub returns-then-not-is_valid_node : goal.returns-then-not-is_valid_node
returns-then-not-is_valid_node c =
    holds-none c.args.node.now c.args.time (is_false c.is_valid_node.ensures c.if-not-is_valid_node.true)

pub attempt_at-attempt-requires : goal.attempt_at-attempt-requires
attempt_at-attempt-requires c =
    omega (
      arith,
      long node_image c.args.node.now
          (image-so c.args.node.now (is_true c.is_valid_node.ensures c.if-not-is_valid_node.false)),
    )

pub returns-then-time-attempt : goal.returns-then-time-attempt
returns-then-time-attempt c =
    holds-early c.args.node.now c.args.time (is_true c.is_valid_node.ensures c.if-not-is_valid_node.false)
    c.attempt_at-attempt.result c.attempt_at-attempt.ensures c.if-time-attempt.true

pub version_at-version-requires : goal.version_at-version-requires
version_at-version-requires c =
    omega (
      arith,
      long node_image c.args.node.now
          (image-so c.args.node.now (is_true c.is_valid_node.ensures c.if-not-is_valid_node.false)),
    )

pub held_address_at-requires : goal.held_address_at-requires
held_address_at-requires c =
    omega (
      arith,
      long node_image c.args.node.now
          (image-so c.args.node.now (is_true c.is_valid_node.ensures c.if-not-is_valid_node.false)),
    )

pub returns-then-holds_at : goal.returns-then-holds_at
returns-then-holds_at c =
    let held = c.holds_at.ensures
    ∙ ap₂ (λ v a. holds_at v a c.args.time) c.version_at-version.ensures c.held_address_at.ensures in
    holds-valid c.args.node.now c.args.time (is_true c.is_valid_node.ensures c.if-not-is_valid_node.false)
    c.attempt_at-attempt.result c.attempt_at-attempt.ensures c.if-time-attempt.false held c.if-holds_at.true

pub returns : goal.returns
returns c =
    let held = c.holds_at.ensures
    ∙ ap₂ (λ v a. holds_at v a c.args.time) c.version_at-version.ensures c.held_address_at.ensures in
    holds-expired c.args.node.now c.args.time (is_true c.is_valid_node.ensures c.if-not-is_valid_node.false)
    c.attempt_at-attempt.result c.attempt_at-attempt.ensures c.if-time-attempt.false held c.if-holds_at.false
