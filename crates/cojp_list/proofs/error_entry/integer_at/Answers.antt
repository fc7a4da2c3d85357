-- A head of major type 0 or 1 is an integer.
use Rattle.cojp_list.proofs.Reports.{integer-none}
use Rattle.cojp_list.proofs.error_entry.integer_at.Goals as goal

pub returns-in_default : goal.returns-in_default
returns-in_default c =
    let a = c.args in
    let v = c.value_at in
    integer-none a.s.now a.at a.left c.if-left-eq0.false v.result v.ensures c.in_default.not-Number c.in_default.not-Minus
