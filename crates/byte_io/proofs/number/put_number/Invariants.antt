-- The bytes still to come, and what follows them, are the number.
use Rattle.std.proofs.Common.{◌≡◌, length, drop, ◌++◌}
use Rattle.byte_io.specs.BigEndian.{bytes_of}
use Rattle.byte_io.proofs.number.put_number.Given as goal

abbrev pub invariant-loop-i : goal.invariant-loop-i
invariant-loop-i l = bytes_of l.i l.left ++ drop l.i l.dst ≡ bytes_of (length l.initial.dst) l.number
