-- The invariant: the counts so far are written, one after the other.
use Prim.Native.Nat.{◌*◌}
use mathlib.Core.Path.{◌≡◌}
use lib.ListN.{length, take}
use Rattle.byte_io.specs.Write.{Wrote}
use Rattle.image.specs.Part.{number, puts}
use Rattle.replay_calls.proofs.counts.put_counts.Given as goal

abbrev pub invariant-loop-i : goal.invariant-loop-i
invariant-loop-i l =
    (length l.dst ≡ length l.initial.dst)
    × Wrote (puts (number 8) (take l.i l.counts)) l.initial.dst (8 * l.i) l.dst
