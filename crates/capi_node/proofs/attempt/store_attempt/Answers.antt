-- The attempt is written over the one in the image, and the other bytes are already right.
use mathlib.Core.Path.{refl}
use native.Mathlib.Omega.{arith}
use Rattle.image.proofs.Lent.{long}
use Rattle.node_image.specs.ChangeLemmas.{attempt-over}
use Rattle.node_image.specs.Node.{node_image}
use Rattle.capi_node.proofs.attempt.store_attempt.Goals as goal

pub slice_bounds-put_attempt-count : goal.slice_bounds-put_attempt-count
slice_bounds-put_attempt-count c =
    omega (arith, long node_image c.args.node.now c.requires)

pub slice_bounds-put_attempt-start : goal.slice_bounds-put_attempt-start
slice_bounds-put_attempt-start c =
    omega (arith, long node_image c.args.node.now c.requires)

pub put_attempt-requires : goal.put_attempt-requires
put_attempt-requires c =
    omega (arith, long node_image c.args.node.now c.requires)

pub returns-in-Ok : goal.returns-in-Ok
returns-in-Ok c =
    rw c.in-Ok.is
    (attempt-over c.laws.ensures.node c.args.node.now (λ i. omega (arith, c.slice_known-1.given i))
    c.requires c.args.attempt c.put_attempt.ensures)

pub returns-in-Err : goal.returns-in-Err
returns-in-Err c = rw c.in-Err.is refl
