-- The invariant: the value read so far and the bytes still to come make the whole number.
use Rattle.std.proofs.Common.{◌≡◌, ◌<◌, ◌^◌, drop}
use Rattle.trace_record.specs.Layout.{big_endian_on}
use Rattle.trace_record.proofs.fields.number_at.Given as goal

abbrev pub invariant-loop-byte : goal.invariant-loop-byte
invariant-loop-byte l =
    (l.value < 256 ^ l.byte-index) × (big_endian_on l.value (drop l.byte-index l.byte-items) ≡ big_endian_on 0 l.byte-items)
