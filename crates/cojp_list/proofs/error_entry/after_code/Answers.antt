-- A label and any item after the code make a report; what lacks one is none.
use Rattle.cojp_list.proofs.Reports.{code-open, code-short, code-whole}
use Rattle.cojp_list.proofs.error_entry.after_code.Goals as goal

pub returns-in_err-label : goal.returns-in_err-label
returns-in_err-label c =
    let a = c.args in
    let i = c.integer_at in
    rw c.from_residual.ensures (code-open a.s.now a.at a.left i.result i.ensures a.code c.in_err-label.was)

pub returns-then-left-eq1 : goal.returns-then-left-eq1
returns-then-left-eq1 c =
    let a = c.args in
    let i = c.integer_at in
    code-short a.s.now a.at a.left i.result i.ensures a.code c.in_ok-label.was c.if-left-eq1.true

pub returns : goal.returns
returns c =
    let a = c.args in
    let i = c.integer_at in
    code-whole a.s.now a.at a.left i.result i.ensures a.code c.in_ok-label.was c.pass_over-rest.result c.pass_over-rest.ensures
