-- A turn adds one report, or finds no room.
use Rattle.std.proofs.Common.{drop, arith}
use Rattle.cojp.specs.Lists.{error_reports_in}
use Rattle.cojp_list.proofs.Gathering.{gathering-done, gathering-ended, turn-full, turn-count, turn_more}
use Rattle.cojp_list.proofs.Reports.{faults-none, faults-turn}
use Rattle.cojp_list.proofs.error_entries.gather_entries.Goals as goal

pub returns-in_default-write_entry : goal.returns-in_default-write_entry
returns-in_default-write_entry c =
    let l = c.loop-left in
    let f = c.error_entry_at in
    turn-full
    (faults-turn c.args.s.now l.at l.left l.invariant f.result f.ensures c.in-Some.is c.write_entry.ensures) c.in_default-write_entry.field-0
    c.in_default-write_entry.is

pub overflow_add-members : goal.overflow_add-members
overflow_add-members c =
    let l = c.loop-left in
    let f = c.error_entry_at in
    let counts =
    turn-count
    (faults-turn c.args.s.now l.at l.left l.invariant f.result f.ensures c.in-Some.is c.write_entry.ensures) c.in-Ok.k
    c.in-Ok.is c.head_laws.ensures in
    omega (arith, counts.1)

pub loop-left-preserved : goal.loop-left-preserved
loop-left-preserved c =
    let l = c.loop-left in
    let f = c.error_entry_at in
    turn_more
    (faults-turn c.args.s.now l.at l.left l.invariant f.result f.ensures c.in-Some.is c.write_entry.ensures) c.in-Ok.k
    c.in-Ok.is

pub returns : goal.returns
returns c =
    let l = c.loop-left in
    gathering-done l.invariant
    (gathering-ended error_reports_in l.left (drop l.at c.args.s.now) faults-none c.loop-left-test.false)
