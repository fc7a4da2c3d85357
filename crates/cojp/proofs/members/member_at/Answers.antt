-- Each arm answers what the value is as a member.
use mathlib.Core.Path.{ap}
use Rattle.cojp.specs.Bytes.{member_of}
use Rattle.cojp.proofs.Arrays.{value-told, neither-told}
use Rattle.cojp.proofs.members.member_at.Goals as goal

pub returns-in-Bytes : goal.returns-in-Bytes
returns-in-Bytes c =
    value-told c.args.s.now c.args.at c.args.left c.if-left-eq0.false c.value_at.result c.value_at.ensures _
    (ap member_of c.in-Bytes.is)

pub returns-in_default : goal.returns-in_default
returns-in_default c =
    let a = c.args in
    neither-told c.args.s.now c.args.at c.args.left c.if-left-eq0.false c.value_at.result c.value_at.ensures
    c.in_default.not-Number c.in_default.not-Bytes
