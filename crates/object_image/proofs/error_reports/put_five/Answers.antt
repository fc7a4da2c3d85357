-- One report more is written behind those before it.
use Rattle.std.proofs.Common.{arith}
use Rattle.image.specs.PartLemmas.{write_next}
use Rattle.object_image.specs.ErrorReports.{error_report_part}
use Rattle.object_image.proofs.error_reports.put_five.Goals as goal

pub loop-i-preserved : goal.loop-i-preserved
loop-i-preserved c =
    let l = c.loop-i in
    write_next error_report_part c.args.reports.now l.i _ (omega (arith, c.told-reports, c.loop-i-test.true)) (omega arith) l.invariant c.put_error_report.ensures
