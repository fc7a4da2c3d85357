-- The bytes of the pending set are copied, and then become zeros.
use mathlib.Core.Path.{◌∙◌}
use native.Mathlib.Omega.{arith}
use Rattle.image.proofs.Lent.{long}
use Rattle.node_image.specs.ChangeLemmas.{switched-over}
use Rattle.node_image.specs.Node.{node_image}
use Rattle.capi_node.proofs.Switching.{copied-size, cleared}
use Rattle.capi_node.proofs.switch.switch_in.Goals as goal

pub copy_pending-requires : goal.copy_pending-requires
copy_pending-requires c =
    long node_image c.args.node.now c.requires

pub slice_bounds-clear-end : goal.slice_bounds-clear-end
slice_bounds-clear-end c =
    omega (
      arith,
      copied-size c.args.node.now (long node_image c.args.node.now c.requires)
          c.copy_pending.ensures,
    )

pub returns : goal.returns
returns c =
    cleared c.args.node.now (long node_image c.args.node.now c.requires) c.copy_pending.ensures
    c.clear.ensures
    ∙ switched-over c.laws.ensures.node c.args.node.now (λ i. omega (arith, c.slice_known-1.given i))
    c.requires c.laws-2.ensures
