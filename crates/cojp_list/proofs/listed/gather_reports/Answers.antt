-- A turn writes the report at its place.
use Rattle.std.proofs.Common.{take, arith}
use Rattle.cojp_list.proofs.Gathering.{gathering-done, turn-full, turn-count, turn_more}
use Rattle.cojp_list.proofs.Listing.{report-turn, none_more, all-reports}
use Rattle.cojp_list.proofs.listed.gather_reports.Goals as goal

pub returns-in_default : goal.returns-in_default
returns-in_default c =
    let f = c.args.reports in
    let n = c.len in
    let l = c.loop-report in
    rw (← all-reports f n.result n.ensures.exact)
    (turn-full
    (report-turn (take n.result f.reports) l.report-index l.invariant c.loop-report-test.true c.write_report.ensures)
    c.in_default.field-0 c.in_default.is)

pub overflow_add-members : goal.overflow_add-members
overflow_add-members c =
    let f = c.args.reports in
    let n = c.len in
    let l = c.loop-report in
    let counts =
    turn-count
    (report-turn (take n.result f.reports) l.report-index l.invariant c.loop-report-test.true c.write_report.ensures)
    c.in-Ok.k c.in-Ok.is c.head_laws.ensures in
    omega (arith, counts.1)

pub loop-report-preserved : goal.loop-report-preserved
loop-report-preserved c =
    let f = c.args.reports in
    let n = c.len in
    let l = c.loop-report in
    turn_more
    (report-turn (take n.result f.reports) l.report-index l.invariant c.loop-report-test.true c.write_report.ensures)
    c.in-Ok.k c.in-Ok.is

pub returns : goal.returns
returns c =
    let f = c.args.reports in
    let n = c.len in
    let l = c.loop-report in
    rw (← all-reports f n.result n.ensures.exact)
    (gathering-done l.invariant (none_more (take n.result f.reports) l.report-index c.loop-report-test.false))
