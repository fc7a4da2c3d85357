use Rattle.std.specs.Prelude.{◌*◌, take}
use Rattle.byte_io.specs.Write.{Wrote}
use Rattle.image.specs.Part.{puts}
use Rattle.image.specs.Part.{number}
use Rattle.key_image.proofs.counted_set.put_counters.Given as goal

abbrev pub invariant-loop-i : goal.invariant-loop-i
invariant-loop-i l = Wrote (puts (number 4) (take l.i l.counters)) l.initial.dst (4 * l.i) l.dst
