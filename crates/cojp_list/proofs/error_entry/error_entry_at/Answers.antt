-- A report begins with its code.
use Rattle.cojp_list.proofs.Reports.{fault-headless, fault-begun}
use Rattle.cojp_list.proofs.error_entry.error_entry_at.Goals as goal

pub returns-in_err-code : goal.returns-in_err-code
returns-in_err-code c =
    let a = c.args in
    let i = c.integer_at in
    rw c.from_residual.ensures (fault-headless a.s.now a.at a.left i.result i.ensures c.requires c.in_err-code.was)

pub returns : goal.returns
returns c =
    let a = c.args in
    let i = c.integer_at in
    fault-begun a.s.now a.at a.left i.result i.ensures c.in_ok-code.was c.after_code.result c.after_code.ensures
