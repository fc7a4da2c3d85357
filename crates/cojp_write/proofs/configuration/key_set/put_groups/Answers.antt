-- The invariant: the groups of the keys passed stand in front.
use Prim.Native.Nat.{◌≤◌}
use native.Mathlib.Omega.{arith}
use lib.ListN.{length, take}
use Rattle.cbor.specs.Encode.{encodes}
use Rattle.cojp.specs.Writing.{groups_items}
use Rattle.cojp_write.proofs.configuration.KeySets.{past, listed, groups-room, groups-seam, all-groups}
use Rattle.cojp_write.proofs.configuration.key_set.put_groups.Goals as goal

pub put_key-at-requires : goal.put_key-at-requires
put_key-at-requires c =
    let keys = take c.len.result c.args.set.keys in
    let fits : length (encodes (groups_items keys)) ≤ length c.args.dst.now = rw (listed c.args.set _ c.len.ensures.exact) c.requires in
    let room = groups-room keys c.loop-key.key-index past c.loop-key-test.true (length c.args.dst.now) fits in
    omega (arith, room, c.loop-key.invariant)

pub loop-key-preserved : goal.loop-key-preserved
loop-key-preserved c =
    let keys = take c.len.result c.args.set.keys in
    let fits : length (encodes (groups_items keys)) ≤ length c.args.dst.now = rw (listed c.args.set _ c.len.ensures.exact) c.requires in
    groups-seam keys c.loop-key.key-index past c.loop-key-test.true fits c.loop-key.invariant c.put_key-at.ensures

pub returns : goal.returns
returns c = all-groups c.args.set c.len.result c.loop-key.key-index c.len.ensures.exact c.loop-key-test.false c.loop-key.invariant
