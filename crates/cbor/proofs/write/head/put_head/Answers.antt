-- The first byte, and the argument's bytes in the part after it.
use Rattle.std.proofs.Common.{ap, ◌+◌, ◌*◌}
use Rattle.cbor.proofs.write.Heads.{head-wrote}
use Rattle.cbor.proofs.write.head.put_head.Goals as goal

pub returns : goal.returns
returns c =
    let a = c.args in
    head-wrote a.major a.argument a.n _ a.dst.now c.put_number.new.dst c.requires.1
    (ap (a.major * 32 +◌) c.shortest_info.ensures.info) c.requires.2 c.put_number.ensures
