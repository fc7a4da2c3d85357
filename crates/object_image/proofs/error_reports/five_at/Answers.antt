-- One report more is read behind those before it.
use Rattle.std.specs.Prelude.{◌<◌, length, drop}
use Rattle.std.proofs.Common.{arith, ◌∙◌, length-set}
use Rattle.image.specs.PartLemmas.{read_next, read_all}
use Rattle.object_image.specs.ErrorReports.{error_report_part}
use Rattle.object_image.proofs.error_reports.five_at.Goals as goal

pub loop-i-preserved : goal.loop-i-preserved
loop-i-preserved c =
    let l = c.loop-i in
    let h : l.i < length l.reports = omega (arith, l.invariant.0, c.loop-i-test.true) in (
      length-set l.reports l.i c.error_report_at.result ∙ l.invariant.0,
      read_next error_report_part c.args.s.now c.args.at l.i l.reports c.error_report_at.result h l.invariant.1 c.error_report_at.ensures,
    )

pub returns : goal.returns
returns c =
    let l = c.loop-i in
    read_all error_report_part (drop c.args.at c.args.s.now) l.i 5 l.reports (omega (arith, l.auto.i-end, c.loop-i-test.false)) l.invariant.0 l.invariant.1
