-- The parameters are read one after the other as they were written.
use Rattle.cojp_laws.proofs.Configurations.{configuration-round-trip}
use Rattle.cojp_laws.proofs.Typed.{configuration-typed}
use Rattle.cojp_laws.proofs.round_trip.configuration_round_trip.Goals as goal

pub returns : goal.returns
returns c =
    let typed = configuration-typed c.args.c _ c.well_formed.0 in
    configuration-round-trip c.head_laws.ensures c.laws.ensures c.laws-2.ensures c.laws-3.ensures c.args.c typed
