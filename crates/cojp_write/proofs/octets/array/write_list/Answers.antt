-- The list's array is written where the list is no longer than its bytes and there is room.
use Rattle.std.proofs.Common.{◌≡◌, ◌++◌, length, rules}
use Rattle.byte_io.specs.Write.{Wrote}
use Rattle.cbor.specs.Encode.{shortest}
use Rattle.cojp.specs.Lists.{bytes_in}
use Rattle.cojp_write.proofs.octets.Arrays.{list_over, list-lacks, list-room, list_done}
use Rattle.cojp_write.proofs.octets.array.write_list.Goals as goal

pub returns-then-l-gt253 : goal.returns-then-l-gt253
returns-then-l-gt253 c = list_over c.args.l c.args.dst.now c.if-l-gt253.true

pub returns-then-dst-head_len : goal.returns-then-dst-head_len
returns-then-dst-head_len c =
    let z : length c.args.l.bytes ≡ 253 = search rules in
    list-lacks c.head_laws.ensures c.args.l z c.if-l-gt253.false c.args.dst.now c.head_len.ensures c.if-dst-head_len.true

pub put_judged-requires : goal.put_judged-requires
put_judged-requires c =
    let z : length c.args.l.bytes ≡ 253 = search rules in
    list-room c.head_laws.ensures c.args.l z c.if-l-gt253.false c.args.dst.now c.head_len.ensures c.if-dst-head_len.false

pub returns : goal.returns
returns c =
    let z : length c.args.l.bytes ≡ 253 = search rules in
    list_done c.head_laws.ensures c.args.l z c.if-l-gt253.false c.args.dst.now c.head_len.ensures c.if-dst-head_len.false
    c.put_judged.ensures
