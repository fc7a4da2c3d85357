-- The lowest bit decides.
use Rattle.address_journal.proofs.Remainder.{odd, even}
use Rattle.address_journal.proofs.crc.crc_bit.Goals as goal

pub returns-then-x-eq1 : goal.returns-then-x-eq1
returns-then-x-eq1 c = odd c.args.x c.if-x-eq1.true

pub returns : goal.returns
returns c = even c.args.x c.if-x-eq1.false
