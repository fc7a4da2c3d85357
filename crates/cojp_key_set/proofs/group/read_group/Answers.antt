-- A group begins with its identifier.
use Rattle.cojp_key_set.proofs.Groups.{group-begun, group-headless}
use Rattle.cojp_key_set.proofs.group.read_group.Goals as goal

pub returns-in-Number-clause-group_at : goal.returns-in-Number-clause-group_at
returns-in-Number-clause-group_at c =
    let a = c.args in
    let m = c.member_at-first in
    group-begun a.allowed a.part.now a.left m.result c.requires m.ensures c.in-Number.number c.in-Number.next c.in-Number.is
    c.after_identifier.result c.after_identifier.ensures.group_at

pub returns-in_default : goal.returns-in_default
returns-in_default c =
    let a = c.args in
    let m = c.member_at-first in
    record { group_at = group-headless a.allowed a.part.now a.left m.result c.requires m.ensures c.in_default.not-Number; rest = tt }
