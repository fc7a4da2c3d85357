-- An item that can be read is one member; what cannot be read is the last.
use Rattle.cojp_list.proofs.Reports.{any-refused, any_next}
use Rattle.cojp_list.proofs.error_entry.pass_over.Goals as goal

pub returns-in-Err : goal.returns-in-Err
returns-in-Err c =
    let a = c.args in
    let k = c.skip_item in
    any-refused a.s.now a.at a.left c.requires k.result k.ensures c.in-Err.field-0 c.in-Err.is

pub returns-in-Ok : goal.returns-in-Ok
returns-in-Ok c =
    let a = c.args in
    let k = c.skip_item in
    any_next a.s.now a.at a.left c.requires k.result k.ensures c.in-Ok.next c.in-Ok.is
