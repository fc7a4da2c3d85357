-- RANGE, the room for both, then the label's head, and the array in the part after it.
use mathlib.Core.Path.{◌≡◌}
use borrow.Author.Rules.{rules}
use lib.ListN.{length}
use Rattle.cojp_write.proofs.octets.Lists.{array-range, array-room, array-done}
use Rattle.cojp_write.proofs.octets.list.write_array.Goals as goal

pub returns-then-l-gt253 : goal.returns-then-l-gt253
returns-then-l-gt253 c =
    array-range c.args.label c.args.l c.args.dst.now c.if-l-gt253.true

pub returns-then-dst-whole : goal.returns-then-dst-whole
returns-then-dst-whole c =
    let z : length c.args.l.bytes ≡ 253 = search rules in
    array-room c.head_laws.ensures c.args.label c.args.l c.head_len.ensures c.head_len-2.ensures z
    c.args.dst.now c.if-l-gt253.false c.if-dst-whole.true

pub returns : goal.returns
returns c =
    let z : length c.args.l.bytes ≡ 253 = search rules in
    array-done c.head_laws.ensures c.args.label c.args.l c.head_len.ensures c.head_len-2.ensures z
    c.args.dst.now c.if-l-gt253.false c.if-dst-whole.false c.put_head-n.ensures c.put_array.ensures
