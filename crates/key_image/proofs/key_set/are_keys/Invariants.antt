use Rattle.image.specs.PartLemmas.{LeftOver}
use Rattle.key_image.specs.Key.{key_part}
use Rattle.key_image.proofs.key_set.are_keys.Given as goal

abbrev pub invariant-loop-i : goal.invariant-loop-i
invariant-loop-i l = LeftOver key_part l.src l.at 8 l.i
