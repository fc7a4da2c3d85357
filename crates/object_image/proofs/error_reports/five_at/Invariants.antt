use Rattle.std.specs.Prelude.{◌≡◌, length, take, drop}
use Rattle.image.specs.Part.{gets}
use Rattle.object_image.specs.ErrorReports.{error_report_part}
use Rattle.object_image.proofs.error_reports.five_at.Given as goal

abbrev pub invariant-loop-i : goal.invariant-loop-i
invariant-loop-i l = (length l.reports ≡ 5) × (take l.i l.reports ≡ gets error_report_part l.i (drop l.at l.s))
