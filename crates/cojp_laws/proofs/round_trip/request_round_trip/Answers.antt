-- Role, network identifier and reports are read one after the other as they were written.
use Rattle.cojp_laws.proofs.Requests.{request-round-trip}
use Rattle.cojp_laws.proofs.Typed.{reports-bytes}
use Rattle.cojp_laws.proofs.round_trip.request_round_trip.Goals as goal

pub returns : goal.returns
returns c =
    request-round-trip c.laws.ensures c.head_laws.ensures c.laws-2.ensures c.args.q
    (reports-bytes c.args.q _ c.well_formed.0)
