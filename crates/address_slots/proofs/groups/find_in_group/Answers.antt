-- The group is a run of places.
use Rattle.address_slots.proofs.Runs.{group-free}
use Rattle.address_slots.proofs.groups.find_in_group.Goals as goal

pub returns : goal.returns
returns c =
    let a = c.args in
    group-free a.group a.count c.group_end-end.result a.memory.now c.group_end-end.ensures _ c.find_free.ensures
