-- After i turns the first i bytes went into x.
use Rattle.address_journal.proofs.Remainder.{Checking}
use Rattle.address_journal.proofs.crc.crc32.Given as goal

abbrev pub invariant-loop-byte : goal.invariant-loop-byte
invariant-loop-byte l = Checking l.before l.bytes l.x l.byte-index
