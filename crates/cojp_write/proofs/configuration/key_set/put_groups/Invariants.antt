-- The invariant: the groups of the keys passed stand in front.
use lib.ListN.{take}
use Rattle.byte_io.specs.Write.{Wrote}
use Rattle.cbor.specs.Encode.{encodes}
use Rattle.cojp.specs.Writing.{groups_items}
use Rattle.cojp_write.proofs.configuration.key_set.put_groups.Given as goal

abbrev pub invariant-loop-key : goal.invariant-loop-key
invariant-loop-key l = Wrote (encodes (groups_items (take l.key-index l.key-items)))
    l.initial.dst l.at l.dst
