-- The map's head, and then each parameter in the part after what is written.
use Prim.Native.Nat.{◌+◌, ◌≤◌}
use native.Mathlib.Omega.{arith}
use mathlib.Core.List.{◌++◌}
use lib.ListN.{length, length-append}
use Rattle.byte_io.specs.WriteLemmas.{seam}
use Rattle.cbor.specs.Encode.{shortest, encode_pairs}
use Rattle.cojp.specs.Lists.{error_reports_in, at_least_one}
use Rattle.cojp.specs.Writing.{role_pairs, octets_pairs}
use Rattle.cojp_write.specs.octets.Plan.{list_bytes}
use Rattle.cojp_write.proofs.octets.Lists.{list-fits}
use Rattle.cojp_write.proofs.request.Requests.{request-wrote}
use Rattle.cojp_write.proofs.request.put_request.Goals as goal

pub put_list-requires : goal.put_list-requires
put_list-requires c =
    (list-fits (at_least_one error_reports_in) c.args.q.unsupported c.requires.0.unsupported, omega (arith, c.requires.1))

pub returns : goal.returns
returns c =
    let q = c.args.q in
    let room = c.requires.1 in
    let h = shortest 5 c.args.members in
    let r = encode_pairs (role_pairs c.args.q.role) in
    let n = encode_pairs (octets_pairs 5 c.args.q.network) in
    let w1 = seam (omega (arith, room)) c.put_head-n1.ensures c.put_role.ensures in
    let w2 = seam (omega (arith, room, length-append h r)) w1 c.put_octets.ensures in
    let sums : length ((h ++ r) ++ n) + length (list_bytes 8 c.args.q.unsupported) ≤ length c.args.dst.now =
    omega (arith, room, length-append h r, length-append (h ++ r) n) in
    request-wrote q c.args.members (seam sums w2 c.put_list.ensures)
