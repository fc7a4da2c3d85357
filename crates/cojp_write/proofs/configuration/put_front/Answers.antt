-- The map's head, and then each parameter in the part after what is written.
use Prim.Native.Nat.{◌+◌, ◌≤◌}
use native.Mathlib.Omega.{arith}
use mathlib.Core.List.{◌++◌}
use lib.ListN.{length, length-append}
use Rattle.byte_io.specs.WriteLemmas.{seam}
use Rattle.cbor.specs.Encode.{shortest, encode_pairs}
use Rattle.cojp.specs.Writing.{keys_pairs, address_pairs}
use Rattle.cojp_write.specs.configuration.Room.{strings_bytes}
use Rattle.cojp_write.proofs.configuration.Configurations.{strings-length, front-wrote}
use Rattle.cojp_write.proofs.configuration.put_front.Goals as goal

pub returns : goal.returns
returns c =
    let q = c.args.c in
    let room = c.requires.1 in
    let h = shortest 5 c.args.members in
    let k = encode_pairs (keys_pairs c.args.c.keys) in
    let a = encode_pairs (address_pairs c.args.c.address) in
    let w1 = seam (omega (arith, room)) c.put_head-n1.ensures c.put_keys.ensures in
    let w2 = seam (omega (arith, room, length-append h k)) w1 c.put_address.ensures in
    let sums : length ((h ++ k) ++ a) + length (strings_bytes c.args.c.jrc c.args.c.network c.args.c.prefix) ≤ length c.args.dst.now =
    omega (arith, room, length-append h k, length-append (h ++ k) a, strings-length c.args.c.jrc c.args.c.network c.args.c.prefix) in
    front-wrote q c.args.members (seam sums w2 c.put_strings.ensures)
