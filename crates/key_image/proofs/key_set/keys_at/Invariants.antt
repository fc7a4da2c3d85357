use Rattle.std.specs.Prelude.{◌≡◌, length, take, drop}
use Rattle.image.specs.Part.{gets}
use Rattle.key_image.specs.Key.{key_part}
use Rattle.key_image.proofs.key_set.keys_at.Given as goal

abbrev pub invariant-loop-i : goal.invariant-loop-i
invariant-loop-i l = (length l.keys ≡ 8) × (take l.i l.keys ≡ gets key_part l.i (drop l.at l.src))
