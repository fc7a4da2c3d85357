-- The item is passed over, or there is none.
use Rattle.cojp_map.proofs.Maps.{end_refused, end-next}
use Rattle.cojp_map.proofs.pair.item_end.Goals as goal

pub returns-in-Err : goal.returns-in-Err
returns-in-Err c =
    let item = c.skip_item in
    end_refused c.args.s.now c.args.at item.result item.ensures c.in-Err.field-0 c.in-Err.is

pub returns-in-Ok : goal.returns-in-Ok
returns-in-Ok c =
    let item = c.skip_item in
    end-next c.args.s.now c.args.at item.result item.ensures c.in-Ok.next c.in-Ok.is
