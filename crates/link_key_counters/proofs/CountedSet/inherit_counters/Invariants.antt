-- `inherit_counters` meets its contract: the counters of the keys so far are written, and the others are 0.
use mathlib.Core.Path.{◌≡◌}
use Rattle.link_key_counters.proofs.Slots.{written}
use Rattle.link_key_counters.proofs.CountedSet.inherit_counters.Given as goal

abbrev pub invariant-loop-i : goal.invariant-loop-i
invariant-loop-i l = l.counters ≡ written l.fn.self l.key-items l.i
