-- The additions in the part after what both forms have.
use native.Mathlib.Omega.{arith}
use lib.ListN.{length-append}
use Rattle.byte_io.specs.WriteLemmas.{seam}
use Rattle.cbor.specs.Encode.{shortest, encode_pairs}
use Rattle.cojp.specs.Lists.{strings_in}
use Rattle.cojp.specs.Writing.{rate_pairs}
use Rattle.cojp_write.specs.octets.Plan.{list_bytes}
use Rattle.cojp_write.proofs.octets.Lists.{list-fits}
use Rattle.cojp_write.specs.configuration.Room.{front_pairs}
use Rattle.cojp_write.proofs.configuration.Configurations.{front_length, configuration-wrote}
use Rattle.cojp_write.proofs.configuration.put_configuration.Goals as goal

pub put_additions-requires : goal.put_additions-requires
put_additions-requires c = (
  list-fits strings_in c.args.c.blacklist c.requires.0.blacklist,
  omega (
    arith,
    c.requires.1,
    c.put_front-n.ensures.many,
    front_length c.args.c,
    length-append (shortest 5 c.args.members) (encode_pairs (front_pairs c.args.c)),
  ),
)

pub returns : goal.returns
returns c =
    let h = length-append (shortest 5 c.args.members) (encode_pairs (front_pairs c.args.c)) in
    let l = length-append (list_bytes 6 c.args.c.blacklist) (encode_pairs (rate_pairs c.args.c.rate)) in
    configuration-wrote c.args.c c.args.members
    (seam (omega (arith, c.requires.1, front_length c.args.c, h, l)) c.put_front-n.ensures c.put_additions.ensures)
