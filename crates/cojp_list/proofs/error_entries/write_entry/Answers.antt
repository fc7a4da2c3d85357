-- Head after head, where all three have room.
use Rattle.cojp_list.proofs.Reports.{report-done}
use Rattle.cojp_list.proofs.error_entries.write_entry.Goals as goal

pub returns : goal.returns
returns c =
    let a = c.args in
    report-done c.head_laws.ensures a.code.negative a.code.number a.label.negative a.label.number a.dst.now c.head_len-n.ensures c.head_len.ensures
    c.if-dst-whole.false c.major_of-first.result c.major_of-second.result c.major_of-first.ensures c.major_of-second.ensures
    c.write_head.ensures c.write_head-2.ensures c.write_head-3.ensures
