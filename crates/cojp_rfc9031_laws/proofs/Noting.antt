-- Five places hold five reports: one more is the last.
use Prim.Native.Nat.{ℕ, ◌<◌}
use native.Mathlib.Numerals.{add-one}
use native.Mathlib.Omega.{arith}
use mathlib.Core.Path.{◌≡◌, refl, ◌∙◌}
use mathlib.Core.List.{List, [], ◌∷◌, ◌++◌}
use lib.ListN.{length, length-set, length-append}
use lib.Seq.{take-suc-set}
use borrow.Author.Tests.{lt-ltb}
use Rattle.cojp.specs.ErrorReports.{error_report_of, no_error_reports, error_report_list, added}
use Rattle.cojp.specs.declared.error_report.ErrorReport.{ErrorReport}
use Rattle.cojp.specs.declared.error_report.ErrorReports.{ErrorReports}

-- these reports, and no others
pub record Holds (f : ErrorReports) (xs : List ErrorReport) : Type 0 where
  pub places : length f.reports ≡ 5
  pub count : f.count ≡ length xs
  pub reports : error_report_list f ≡ xs

pub none-held : Holds no_error_reports []
none-held = record { places = refl; count = refl; reports = refl }

pub added-held : (f : ErrorReports) (xs : List ErrorReport) (code label : ℕ) → Holds f xs → length xs < 5 →
    Holds (added f code label) (xs ++ (error_report_of code label ∷ []))
unfolding added
added-held f xs code label h few =
    rw (lt-ltb f.count 5 (omega arith))
    (record {
      places = length-set f.reports f.count (error_report_of code label) ∙ h.places;
      count = rw (h.count, length-append xs (error_report_of code label ∷ [])) refl;
      reports = rw (add-one f.count, take-suc-set f.reports f.count (error_report_of code label) (omega arith), h.reports);
    })
