-- The counter is written over the one in the image, and the other bytes are already right.
use Prim.Native.Nat.{ℕ, ◌+◌, ◌*◌}
use mathlib.Core.Path.{refl, ap, ap₂, ◌∙◌}
use native.Mathlib.Omega.{arith}
use lib.ListN.{set}
use Rattle.image.proofs.Lent.{long}
use Rattle.node_image.specs.Answers.{frame_key_image}
use Rattle.node_image.specs.Change.{recounted}
use Rattle.node_image.specs.ChangeLemmas.{counter-over}
use Rattle.node_image.specs.Node.{node_image}
use Rattle.capi_node.proofs.serve.take_counter_in.Goals as goal

pub counter_at-counter-requires : goal.counter_at-counter-requires
counter_at-counter-requires c =
    omega (arith, long node_image c.args.node.now c.requires.node_value, c.requires.index_bound.0)

pub key_at-taken-requires : goal.key_at-taken-requires
key_at-taken-requires c =
    omega (arith, long node_image c.args.node.now c.requires.node_value, c.requires.index_bound.0)

pub slice_bounds-put_number-count : goal.slice_bounds-put_number-count
slice_bounds-put_number-count c =
    omega (arith, long node_image c.args.node.now c.requires.node_value, c.requires.index_bound.0)

pub slice_bounds-put_number-start : goal.slice_bounds-put_number-start
slice_bounds-put_number-start c =
    omega (arith, long node_image c.args.node.now c.requires.node_value, c.requires.index_bound.0)

pub put_number-requires : goal.put_number-requires
put_number-requires c =
    omega (arith, long node_image c.args.node.now c.requires.node_value, c.requires.index_bound.0)

pub returns : goal.returns
returns c =
    let s = c.args.node.now in
    let i = c.args.index in
    record {
      node = counter-over c.laws.ensures.node s (λ j. omega (arith, c.slice_known-1.given j)) c.requires.node_value
          c.laws-2.ensures i c.requires.index_bound.0
          (c.counter_at-counter.result + 1) (246 + 4 * i) refl c.put_number.ensures
          ∙ ap (λ (x : ℕ). node_image.put (recounted (node_image.get s) (set (node_image.get s).sets.active.counters i (x + 1))))
          c.counter_at-counter.ensures;
      key = c.put_frame_key.ensures
          ∙ ap₂ (λ k x. frame_key_image.put (k, x)) c.key_at-taken.ensures c.counter_at-counter.ensures;
    }
