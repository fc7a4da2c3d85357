-- The label and the role, or nothing.
use Rattle.cojp_write.proofs.request.Roles.{role-wrote}
use Rattle.cojp_write.proofs.request.put_role.Goals as goal

pub returns-then-role-ne0 : goal.returns-then-role-ne0
returns-then-role-ne0 c =
    role-wrote c.head_laws.ensures c.args.role c.if-role-ne0.true c.requires.1 c.put_head-n.ensures c.put_head.ensures
