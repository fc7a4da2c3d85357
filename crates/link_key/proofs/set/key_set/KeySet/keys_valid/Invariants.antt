-- `keys_valid` meets its contract: the flags are exactly those of the keys before the place, and each key is told by its own.
use mathlib.Core.Path.{◌≡◌}
use lib.ListN.{drop}
use Rattle.link_key.specs.set.KeySet.{additional_info_allowed}
use Rattle.link_key.proofs.set.Flags.{Judging}
use Rattle.link_key.proofs.set.key_set.KeySet.keys_valid.Given as goal

abbrev pub invariant-loop-key : goal.invariant-loop-key
invariant-loop-key l =
    Judging l.key-items l.key-index l.seen
    × (additional_info_allowed l.allowed l.key-items ≡ additional_info_allowed l.allowed (drop l.key-index l.key-items))
