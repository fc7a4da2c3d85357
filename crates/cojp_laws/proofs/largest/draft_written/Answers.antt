-- It takes at most 232 bytes, which are under 256.
use Rattle.cojp_laws.proofs.Sizes.{draft-written}
use Rattle.cojp_laws.proofs.Typed.{configuration-typed}
use Rattle.cojp_laws.proofs.largest.draft_written.Goals as goal

pub returns : goal.returns
returns c =
    let typed = configuration-typed c.args.c _ c.well_formed.0 in
    draft-written c.head_laws.ensures c.laws.ensures c.laws-2.ensures c.laws-3.ensures c.args.c typed
