-- `kept_counter` meets its contract: from each place on the question has the answer that it has from the first.
use mathlib.Core.Path.{◌≡◌}
use Rattle.link_key.specs.set.KeySet.{keys_of}
use Rattle.link_key_counters.specs.Counters.{kept_counter}
use Rattle.link_key_counters.proofs.Slots.{rest, asked}
use Rattle.link_key_counters.proofs.CountedSet.kept_counter.Given as goal

abbrev pub invariant-loop-i : goal.invariant-loop-i
invariant-loop-i l = kept_counter l.fn.self l.key ≡ asked l.key (rest (keys_of l.fn.self.set) l.fn.self.counters l.i)
