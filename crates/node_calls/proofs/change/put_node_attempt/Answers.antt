-- The attempt is written over the one in the image, and the other bytes are already right.
use native.Mathlib.Omega.{arith}
use Rattle.image.proofs.Lent.{long}
use Rattle.node_image.specs.Node.{node_image}
use Rattle.node_calls.proofs.Changed.{attempted-over}
use Rattle.node_calls.proofs.change.put_node_attempt.Goals as goal

pub slice_bounds-put_attempt-count : goal.slice_bounds-put_attempt-count
slice_bounds-put_attempt-count c =
    omega (arith, long node_image c.args.dst.now c.requires.dst_value)

pub slice_bounds-put_attempt-start : goal.slice_bounds-put_attempt-start
slice_bounds-put_attempt-start c =
    omega (arith, long node_image c.args.dst.now c.requires.dst_value)

pub put_attempt-requires : goal.put_attempt-requires
put_attempt-requires c =
    omega (arith, long node_image c.args.dst.now c.requires.dst_value)

pub returns : goal.returns
returns c =
    attempted-over c.laws.ensures.node c.args.dst.now (λ i. omega (arith, c.slice_known-1.given i))
    c.requires.dst_value c.args.node c.requires.attempted c.put_attempt.ensures
