-- The counters that were read are the first i of those to read.
use Rattle.std.specs.Prelude.{◌≡◌, length, take, drop}
use Rattle.image.specs.Part.{number, gets}
use Rattle.key_image.proofs.counted_set.counters_at.Given as goal

abbrev pub invariant-loop-i : goal.invariant-loop-i
invariant-loop-i l = (length l.counters ≡ 8) × (take l.i l.counters ≡ gets (number 4) l.i (drop l.at l.src))
