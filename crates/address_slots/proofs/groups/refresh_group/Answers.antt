-- A place beyond the groups has no mark; else its group is walked and its bit written.
use Rattle.std.proofs.Common.{◌*◌, ◌/◌, ◌∙◌}
use Rattle.address_slots.specs.Slot.{slots}
use Rattle.address_slots.specs.Marks.{group_at}
use Rattle.address_slots.proofs.Runs.{refreshed-over, refreshed-there, some-free}
use Rattle.address_slots.proofs.groups.refresh_group.Goals as goal

pub returns-then-place-ge-PLACES_MOST : goal.returns-then-place-ge-PLACES_MOST
returns-then-place-ge-PLACES_MOST c =
    let a = c.args in
    refreshed-over a.marks a.place _ c.if-place-ge-PLACES_MOST.true

pub returns : goal.returns
returns c =
    let a = c.args in
    let fit = c.fit in
    let if1 = c.if-place-ge-PLACES_MOST in
    let ps = slots fit.result a.memory.now in
    let with-mark = c.with_mark in
    rw (← fit.ensures)
    (refreshed-there a.marks a.place ps if1.false _
    (c.is_some.ensures ∙ some-free (64 * (a.place / 64)) (group_at (a.place / 64) ps) _ c.find_in_group-free.ensures)
    with-mark.result with-mark.ensures)
