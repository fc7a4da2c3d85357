-- The invariant: the size of the groups of the keys passed.
use Rattle.cojp_write.proofs.configuration.KeySets.{past, sizes_step, all-sizes}
use Rattle.cojp_write.proofs.configuration.key_set.groups_size.Goals as goal

pub loop-key-preserved : goal.loop-key-preserved
loop-key-preserved c =
    sizes_step _ c.loop-key.key-index past c.loop-key-test.true c.loop-key.invariant c.key_size.ensures c.plus-size.ensures

pub returns : goal.returns
returns c =
    all-sizes c.args.set c.len.result c.loop-key.key-index c.len.ensures.exact c.loop-key-test.false c.len.ensures.few
    c.loop-key.auto.key-index-end c.loop-key.invariant
