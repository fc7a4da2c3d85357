-- The size, the tests in their order, and the map.
use native.Mathlib.Omega.{arith}
use Rattle.cojp.specs.Writing.{request_pairs}
use Rattle.cojp_write.proofs.octets.Maps.{map-within, map-emit}
use Rattle.cojp_write.proofs.request.Plans.{owing-emit}
use Rattle.cojp_write.proofs.request.Requests.{request-sized, request-map}
use Rattle.cojp_write.proofs.request.emit_request.Goals as goal

pub returns : goal.returns
returns c =
    let law = c.laws.ensures.unsupported-written in
    let z = request-sized c.args.q law c.requires c.request_size-size.ensures in
    let within = map-within c.head_laws.ensures (request_pairs c.args.q) z (omega arith) c.args.dst.now c.if-whole-gt-MOST.false in
    let wrote = request-map c.args.q law c.requires c.request_size-size.ensures c.put_request.ensures in
    owing-emit c.args.owed within c.if-owed.false
    (map-emit c.head_laws.ensures (request_pairs c.args.q) z (omega arith) _ c.if-dst-whole.false wrote)
