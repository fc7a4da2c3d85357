-- The parameters take at most 163, 14, 18, 18 and 18 bytes, and the map's head one.
use Rattle.cojp_laws.proofs.Sizes.{largest-configuration}
use Rattle.cojp_laws.proofs.Typed.{configuration-typed}
use Rattle.cojp_laws.proofs.largest.largest_configuration.Goals as goal

pub returns : goal.returns
returns c =
    let typed = configuration-typed c.args.c _ c.well_formed.0 in
    largest-configuration c.head_laws.ensures c.laws.ensures c.laws-2.ensures c.laws-3.ensures
    c.args.c typed
