-- The value is that of the bytes so far.
use Rattle.byte_io.specs.BigEndianLemmas.{ReadTo}
use Rattle.byte_io.proofs.number.number_of.Given as goal

abbrev pub invariant-loop-byte : goal.invariant-loop-byte
invariant-loop-byte l = ReadTo l.bytes l.byte-index l.value
