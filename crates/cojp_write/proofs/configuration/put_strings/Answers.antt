-- Each byte string in the part after what is written.
use native.Mathlib.Omega.{arith}
use lib.ListN.{length-append}
use Rattle.byte_io.specs.WriteLemmas.{seam}
use Rattle.cbor.specs.Encode.{encode_pairs}
use Rattle.cojp.specs.Writing.{octets_pairs}
use Rattle.cojp_write.proofs.configuration.put_strings.Goals as goal

pub returns : goal.returns
returns c =
    let room = c.requires.1 in
    let front = seam (omega (arith, room)) c.put_octets-n1.ensures c.put_octets.ensures in
    seam (omega (arith, room, length-append (encode_pairs (octets_pairs 4 c.args.jrc)) (encode_pairs (octets_pairs 5 c.args.network))))
    front
    c.put_octets-2.ensures
