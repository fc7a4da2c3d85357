-- From each index on the search has the answer that it has from the first.
use Rattle.capi_node.proofs.Serving.{not-serving, is-serving}
use Rattle.capi_node.proofs.serve.serving_in.Goals as goal

pub returns-then-serves_at-clause-slot : goal.returns-then-serves_at-clause-slot
returns-then-serves_at-clause-slot c =
    is-serving c.args.s.now c.args.frame_type c.key_count_at-i-end.result c.loop-i.i
    c.loop-i-test.true c.key_count_at-i-end.ensures.few c.loop-i.invariant c.serves_at.ensures
    c.if-serves_at.true

pub loop-i-preserved : goal.loop-i-preserved
loop-i-preserved c =
    not-serving c.args.s.now c.args.frame_type c.key_count_at-i-end.result c.loop-i.i c.loop-i-test.true
    c.key_count_at-i-end.ensures.few c.loop-i.invariant c.serves_at.ensures c.if-serves_at.false
