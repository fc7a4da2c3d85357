-- What is still to be read from here on is what was to be read from the start; at most so many labels were passed over as there were pairs.
use Prim.Native.Nat.{◌-◌}
use lib.ListN.{drop}
use Rattle.cojp.specs.Request.{request_form}
use Rattle.cojp_map.specs.Pairs.{walk_at}
use Rattle.cojp_map.proofs.Maps.{Walking}
use Rattle.cojp_read.proofs.request.take_pairs.Given as goal

abbrev pub invariant-loop : goal.invariant-loop
invariant-loop l =
    let form = request_form l.version in
    Walking form (walk_at form l.end l.initial.state (drop l.initial.at l.payload)) l.end l.state.request.unknown (l.end - l.counter)
    l.state (drop l.at l.payload)
