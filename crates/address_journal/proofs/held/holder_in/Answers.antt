-- Mark 1 and the eight bytes after it.
use Prim.Native.Nat.{◌*◌}
use mathlib.Core.Path.{refl}
use native.Mathlib.Omega.{arith}
use Rattle.address_journal.proofs.Bytes.{part-is}
use Rattle.address_journal.proofs.Holding.{slot-free, slot_held}
use Rattle.address_journal.proofs.held.holder_in.Goals as goal

pub returns-then-memory-at-ne1 : goal.returns-then-memory-at-ne1
returns-then-memory-at-ne1 c =
    slot-free c.args.memory.now c.args.slot c.if-memory-at-ne1.true _ refl

pub returns : goal.returns
returns c =
    slot_held c.args.memory.now c.args.slot c.if-memory-at-ne1.false _ (part-is c.args.memory.now (9 * c.args.slot) (omega arith))
