-- `serving` meets its contract: from each place on the question has the answer that it has from the first.
use mathlib.Core.Path.{◌≡◌}
use Rattle.link_key.specs.set.Lists.{first_of}
use Rattle.link_key_counters.specs.Counters.{serves, slots_from}
use Rattle.link_key_counters.proofs.Slots.{rest}
use Rattle.link_key_counters.proofs.CountedSet.serving.Given as goal

abbrev pub invariant-loop-i : goal.invariant-loop-i
invariant-loop-i l =
    first_of (serves l.frame_type) (slots_from 0 l.fn.self.counters l.key-items)
    ≡ first_of (serves l.frame_type) (rest l.key-items l.fn.self.counters l.i)
