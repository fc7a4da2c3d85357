-- After a usage comes a value; anything else breaks the pattern.
use Rattle.cojp_key_set.proofs.Groups.{group-triple, group-valueless}
use Rattle.cojp_key_set.proofs.group.after_usage.Goals as goal

pub returns-in-Bytes-clause-group_at : goal.returns-in-Bytes-clause-group_at
returns-in-Bytes-clause-group_at c =
    let a = c.args in
    let m = c.member_at-third in
    group-triple a.allowed a.part.now a.left m.result a.at a.identifier m.ensures a.usage c.in-Bytes.start c.in-Bytes.len c.in-Bytes.is
    c.after_value.result c.after_value.ensures.group_at

pub returns-in_default : goal.returns-in_default
returns-in_default c =
    let a = c.args in
    let m = c.member_at-third in
    record {
      group_at = group-valueless a.allowed a.part.now a.left m.result a.at a.identifier m.ensures a.usage c.in_default.not-Bytes;
      rest = tt;
    }
