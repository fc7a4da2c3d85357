-- After i turns the first i bytes went into x.
use Rattle.address_journal.proofs.Remainder.{turn, stop}
use Rattle.address_journal.proofs.crc.crc32.Goals as goal

pub loop-byte-preserved : goal.loop-byte-preserved
loop-byte-preserved c = turn _ _ _ _ _ c.loop-byte.invariant c.loop-byte-test.true c.crc_byte-x.ensures

pub returns : goal.returns
returns c = stop _ _ _ _ c.loop-byte.invariant c.loop-byte-test.false
