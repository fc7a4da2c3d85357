-- From each key on it is asked as from the first.
use Rattle.std.proofs.Common.{◌+◌, ◌*◌, ◌-◌, drop}
use Rattle.image.specs.Part.{gets}
use Rattle.key_image.specs.Key.{key_part}
use Rattle.capi_judge.proofs.Together.{Asked}
use Rattle.capi_judge.proofs.sets.keys_join.Given as goal

abbrev pub invariant-loop-i : goal.invariant-loop-i
invariant-loop-i l =
    Asked l.allowed l.initial.seen (gets key_part l.fn.count (drop l.at l.src)) l.seen
    (gets key_part (l.fn.count - l.i) (drop (l.at + 27 * l.i) l.src))
