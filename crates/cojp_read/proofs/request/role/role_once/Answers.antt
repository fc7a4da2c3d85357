-- TWICE where a role came before; else the number decides.
use Rattle.cojp_read.proofs.request.Roles.{role-high, role-fits, role-broken}
use Rattle.cojp_read.proofs.request.Roles.{says_first, says-unfit, says-broken, says-good}
use Rattle.cojp_read.proofs.request.role.role_once.Goals as goal

pub returns-in-Number-clause-role_spec : goal.returns-in-Number-clause-role_spec
returns-in-Number-clause-role_spec c =
    let n = c.in-Number in
    let fits = role-fits c.args.s.now c.args.at c.value_at.result c.value_at.ensures n.number n.next n.is c.if-number-le1.true in
    says-good c.args.version c.args.errors c.args.named _ n.number n.next c.if-named.false fits

pub returns-in-Number-2-clause-role_spec : goal.returns-in-Number-2-clause-role_spec
returns-in-Number-2-clause-role_spec c =
    let n = c.in-Number in
    let high = role-high c.args.s.now c.args.at c.value_at.result c.value_at.ensures n.number n.next n.is c.if-number-le1.false in
    says_first c.args.version c.args.named c.args.errors _ _ c.bad_role.result c.if-named.false high
    (says-unfit c.args.version c.args.errors c.bad_role.result c.bad_role.ensures.bad_role)

pub returns-in_default : goal.returns-in_default
returns-in_default c =
    let broken = role-broken c.args.s.now c.args.at c.value_at.result c.value_at.ensures c.in_default.not-Number in
    record {
      role_spec =
          says_first c.args.version c.args.named c.args.errors _ _ c.bad_role-in_default.result c.if-named.false broken
          (says-broken c.args.version c.args.errors c.bad_role-in_default.result c.bad_role-in_default.ensures.bad_role);
      rest = c.bad_role-in_default.ensures.rest;
    }
