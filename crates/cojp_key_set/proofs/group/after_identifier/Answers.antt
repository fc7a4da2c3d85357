-- After an identifier comes a usage or a value; anything else breaks the pattern.
use Rattle.cojp_key_set.proofs.Groups.{group-used, group-pair, group-open}
use Rattle.cojp_key_set.proofs.group.after_identifier.Goals as goal

pub returns-in-Number-clause-group_at : goal.returns-in-Number-clause-group_at
returns-in-Number-clause-group_at c =
    let a = c.args in
    let m = c.member_at-second in
    group-used a.allowed a.part.now a.left m.result a.at a.identifier m.ensures c.in-Number.number c.in-Number.next c.in-Number.is
    c.after_usage.result c.after_usage.ensures.group_at

pub returns-in-Bytes-clause-group_at : goal.returns-in-Bytes-clause-group_at
returns-in-Bytes-clause-group_at c =
    let a = c.args in
    let m = c.member_at-second in
    group-pair a.allowed a.part.now a.left m.result a.at a.identifier m.ensures c.in-Bytes.start c.in-Bytes.len c.in-Bytes.is
    c.after_value.result c.after_value.ensures.group_at

pub returns-in-Neither-clause-group_at : goal.returns-in-Neither-clause-group_at
returns-in-Neither-clause-group_at c =
    let a = c.args in
    let m = c.member_at-second in
    group-open a.allowed a.part.now a.left m.result a.at a.identifier m.ensures c.in-Neither.is
