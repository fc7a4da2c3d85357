-- The verdict of opening decides.
use mathlib.Core.Path.{refl}
use Rattle.address_journal.proofs.Steps.{begun-taken, begun-refused}
use Rattle.address_journal.proofs.resume.begin.Goals as goal

pub returns-in-Ok : goal.returns-in-Ok
returns-in-Ok c =
    let open_at = c.open-opened in
    begun-taken c.args.first c.args.size c.args.memory.now c.header_check-next.result c.header_check-next.ensures open_at.result
    open_at.ensures c.stopped.result c.in-Ok.is c.stopped.ensures

pub returns-in-Err : goal.returns-in-Err
returns-in-Err c =
    let open_at = c.open-opened in
    begun-refused c.args.first c.args.size c.args.memory.now c.header_check-next.result c.header_check-next.ensures open_at.result
    open_at.ensures c.stopped-in-Err.result c.in-Err.refusal c.in-Err.is _ refl
    c.stopped-in-Err.ensures
