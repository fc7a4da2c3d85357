-- From each key on the search has the answer that it has from the first.
use Rattle.std.proofs.Common.{◌≡◌, ◌+◌, ◌*◌, ◌-◌, drop}
use Rattle.image.specs.Part.{gets}
use Rattle.key_image.specs.Key.{key_part, key_set_part}
use Rattle.link_key.specs.set.KeySet.{keys_of, find_key}
use Rattle.capi_node.proofs.find.find_at.Given as goal

abbrev pub invariant-loop-i : goal.invariant-loop-i
invariant-loop-i l =
    find_key l.identifier (keys_of (key_set_part.get (drop l.at l.s)))
    ≡ find_key l.identifier (gets key_part (l.i-end - l.i) (drop (l.at + 1 + 27 * l.i) l.s))
