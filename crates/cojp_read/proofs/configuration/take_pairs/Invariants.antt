-- What is still to be read from here on is what was to be read from the start; at most so many labels were passed over as there were pairs.
use Prim.Native.Nat.{◌-◌}
use lib.ListN.{drop}
use Rattle.cojp.specs.Configuration.{configuration_form}
use Rattle.cojp_map.specs.Pairs.{walk_at}
use Rattle.cojp_map.proofs.Maps.{Walking}
use Rattle.cojp_read.proofs.configuration.take_pairs.Given as goal

abbrev pub invariant-loop : goal.invariant-loop
invariant-loop l =
    let form = configuration_form l.version in
    Walking form (walk_at form l.end l.initial.c (drop l.initial.at l.payload)) l.end l.c.unknown (l.end - l.counter)
    l.c (drop l.at l.payload)
