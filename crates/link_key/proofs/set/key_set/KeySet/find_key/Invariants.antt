-- `find_key` meets its contract: from each place on the question has the answer that it has from the first.
use mathlib.Core.Path.{◌≡◌}
use lib.ListN.{drop}
use Rattle.link_key.specs.set.KeySet.{keys_of, find_key}
use Rattle.link_key.proofs.set.key_set.KeySet.find_key.Given as goal

abbrev pub invariant-loop-key : goal.invariant-loop-key
invariant-loop-key l = find_key l.identifier (keys_of l.fn.self) ≡ find_key l.identifier (drop l.key-index (keys_of l.fn.self))
