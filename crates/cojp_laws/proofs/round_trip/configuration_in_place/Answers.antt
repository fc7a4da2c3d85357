-- The bytes that were written are those of the plan.
use Rattle.cojp_laws.proofs.InPlace.{configuration-in-place}
use Rattle.cojp_laws.proofs.round_trip.configuration_in_place.Goals as goal

pub returns : goal.returns
returns c = configuration-in-place c.args.c c.configuration_round_trip.ensures
