-- The last counter is never used; else the key decides.
use native.Mathlib.Omega.{arith}
use Rattle.capi_node.proofs.Serving.{used-up, fresh}
use Rattle.capi_node.proofs.serve.serves_at.Goals as goal

pub counter_at-counter-requires : goal.counter_at-counter-requires
counter_at-counter-requires c =
    omega (arith, c.requires.0, c.requires.1)

pub returns-then-counter : goal.returns-then-counter
returns-then-counter c =
    used-up c.args.s.now c.args.frame_type c.args.index c.counter_at-counter.ensures c.if-counter.true

pub key_at-requires : goal.key_at-requires
key_at-requires c =
    omega (arith, c.requires.0, c.requires.1)

pub returns : goal.returns
returns c =
    fresh c.args.s.now c.args.frame_type c.args.index c.counter_at-counter.ensures c.if-counter.false
    c.key_at.ensures c.covers.ensures
