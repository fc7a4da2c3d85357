-- A list that is no longer than its bytes and has room is written.
use Rattle.std.proofs.Common.{◌≡◌, length, arith, rules, length-append}
use Rattle.cbor.specs.Encode.{shortest}
use Rattle.cojp.specs.Lists.{bytes_in}
use Rattle.cojp_write.proofs.octets.Arrays.{list-did}
use Rattle.cojp_write.proofs.octets.Plans.{did-wrote}
use Rattle.cojp_write.proofs.octets.array.put_array.Goals as goal

pub returns : goal.returns
returns c =
    rw c.unwrap_or.ensures
    (did-wrote _ _ _ _ (omega (arith, c.requires.1, length-append (shortest 4 c.args.l.count) (bytes_in c.args.l)))
    (list-did c.args.l c.requires.0 c.write_list.ensures))
