-- The bit is set, or cleared by `and` with all other bits.
use Rattle.std.proofs.Common.{arith}
use Rattle.address_slots.proofs.Bits.{set_is, cleared-is}
use Rattle.address_slots.proofs.groups.with_mark.Goals as goal

pub returns-then-mark : goal.returns-then-mark
returns-then-mark c = rw c.if-mark.true (set_is c.args.group c.args.marks c.requires)

pub returns : goal.returns
returns c = rw c.if-mark.false (cleared-is c.args.group c.args.marks c.requires (omega (arith, c.ranges.marks.fits)))
