use Rattle.std.specs.Prelude.{◌*◌, take}
use Rattle.byte_io.specs.Write.{Wrote}
use Rattle.image.specs.Part.{puts}
use Rattle.key_image.specs.Key.{key_part}
use Rattle.key_image.proofs.key_set.put_keys.Given as goal

abbrev pub invariant-loop-i : goal.invariant-loop-i
invariant-loop-i l = Wrote (puts key_part (take l.i l.keys)) l.initial.dst (27 * l.i) l.dst
