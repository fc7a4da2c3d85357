use Rattle.std.specs.Prelude.{◌*◌, take}
use Rattle.byte_io.specs.Write.{Wrote}
use Rattle.image.specs.Part.{puts}
use Rattle.object_image.specs.ErrorReports.{error_report_part}
use Rattle.object_image.proofs.error_reports.put_five.Given as goal

abbrev pub invariant-loop-i : goal.invariant-loop-i
invariant-loop-i l = Wrote (puts error_report_part (take l.i l.reports)) l.initial.dst (2 * l.i) l.dst
