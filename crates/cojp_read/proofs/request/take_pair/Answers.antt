-- By the label; a refusal of its reader is that of the pair.
use mathlib.Core.Path.{sym, ◌∙◌}
use lib.ListN.{drop}
use Rattle.std.proofs.lemmas.Result.{err_from_is_err_and}
use Rattle.cojp_read.proofs.request.Requests.{role-read, role-refused, network-taken}
use Rattle.cojp_read.proofs.request.Requests.{unsupported-read, unsupported-refused, passed}
use Rattle.cojp_read.proofs.request.take_pair.Goals as goal

pub returns-in_err-role-in-Role-clause-taken : goal.returns-in_err-role-in-Role-clause-taken
returns-in_err-role-in-Role-clause-taken c =
    let state = c.args.state.now in
    let r = c.in_err-role-in-Role in
    let p = err_from_is_err_and c.from_residual-in_err-role-in-Role.result c.from_residual-in_err-role-in-Role.ensures.1 in
    rw (p.1, p.2)
    (role-refused c.args.version state c.args.s.now _ _ c.labelled_at.ensures _ c.in_ok-label.was (sym c.request_parameter_of.ensures ∙ c.in-Role.is)
    r.field-0.0 r.ensures.role_spec state)

pub returns-in_ok-role-in-Role-clause-taken : goal.returns-in_ok-role-in-Role-clause-taken
returns-in_ok-role-in-Role-clause-taken c =
    let r = c.in_ok-role-in-Role in
    role-read c.args.version c.args.state.now c.args.s.now _ _ c.labelled_at.ensures _ c.in_ok-label.was
    (sym c.request_parameter_of.ensures ∙ c.in-Role.is) r.role r.ensures.role_spec r.ensures.rest

pub returns-in-Network-clause-taken : goal.returns-in-Network-clause-taken
returns-in-Network-clause-taken c =
    network-taken c.args.version c.args.state.now c.args.s.now (drop c.args.at c.args.s.now) _ c.labelled_at.ensures _ c.in_ok-label.was
    (sym c.request_parameter_of.ensures ∙ c.in-Network.is) c.take_octets.result c.take_octets.new.octets c.take_octets.ensures.octets
    c.take_octets.ensures.rest

pub returns-in_err-reports-in-Unsupported-clause-taken : goal.returns-in_err-reports-in-Unsupported-clause-taken
returns-in_err-reports-in-Unsupported-clause-taken c =
    let state = c.args.state.now in
    let r = c.in_err-reports-in-Unsupported in
    let p = err_from_is_err_and c.from_residual-in_err-reports-in-Unsupported.result c.from_residual-in_err-reports-in-Unsupported.ensures.1 in
    rw (p.1, p.2)
    (unsupported-refused c.args.version state c.args.s.now _ _ c.labelled_at.ensures _ c.in_ok-label.was
    (sym c.request_parameter_of.ensures ∙ c.in-Unsupported.is) r.field-0.0 r.ensures.unsupported_spec state)

pub returns-in_ok-reports-in-Unsupported-clause-taken : goal.returns-in_ok-reports-in-Unsupported-clause-taken
returns-in_ok-reports-in-Unsupported-clause-taken c =
    let r = c.in_ok-reports-in-Unsupported in
    unsupported-read c.args.version c.args.state.now c.args.s.now _ _ c.labelled_at.ensures _ c.in_ok-label.was
    (sym c.request_parameter_of.ensures ∙ c.in-Unsupported.is) r.reports r.ensures.unsupported_spec r.ensures.rest

pub returns-in-Unknown-clause-taken : goal.returns-in-Unknown-clause-taken
returns-in-Unknown-clause-taken c =
    passed c.args.version c.args.state.now c.args.s.now (drop c.args.at c.args.s.now) _ c.labelled_at.ensures _ c.in_ok-label.was
    (sym c.request_parameter_of.ensures ∙ c.in-Unknown.is) c.item_end.result c.item_end.ensures
