-- The invariant: the size of the groups of the keys passed.
use Prim.Native.Nat.{◌*◌}
use lib.ListN.{take}
use Rattle.cojp.specs.Writing.{groups_items}
use Rattle.cojp_write.specs.octets.Size.{ItemsSize}
use Rattle.cojp_write.proofs.configuration.key_set.groups_size.Given as goal

abbrev pub invariant-loop-key : goal.invariant-loop-key
invariant-loop-key l = ItemsSize (groups_items (take l.key-index l.key-items)) (4 * l.key-index) (37 * l.key-index) l.size
