-- RANGE, then ROOM, then the head.
use Rattle.cbor.proofs.write.Heads.{head-room}
use Rattle.cbor.proofs.write.head.write_head.Goals as goal

pub returns-then-dst-n : goal.returns-then-dst-n
returns-then-dst-n c =
    let a = c.args in
    let h = c.head_len-n in
    head-room a.major a.argument h.result a.dst.now c.if-major-gt7.false h.ensures c.if-dst-n.true
