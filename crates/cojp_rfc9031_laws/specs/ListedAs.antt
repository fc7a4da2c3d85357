-- The reports that a node keeps, in its join request: under label 8 an array with code, label and null of each report in its order, a byte
-- each; nothing where there is no report.
use Rattle.std.specs.Prelude.{ℕ, ◌+◌, ◌*◌, ◌≡◌, true, List, [], ◌∷◌, length, replicate}
use Rattle.cbor.specs.Encode.{encode_pairs}
use Rattle.cojp.specs.ErrorReports.{error_report_of, error_report_list, valid_error_reports}
use Rattle.cojp.specs.Lists.{bytes_in, error_reports_in, at_least_one}
use Rattle.cojp.specs.Writing.{list_pairs}
use Rattle.cojp.specs.declared.error_report.ErrorReport.{ErrorReport}
use Rattle.cojp.specs.declared.error_report.ErrorReports.{ErrorReports}
use Rattle.cojp.specs.declared.disposition.Disposition.{Disposition}
use Rattle.cojp.specs.declared.disposition.Disposition.TheVariants.{Absent, Taken}
use Rattle.cojp_list.specs.Listed.{listed_in}

abbrev pub listed_bytes : List ErrorReport → List ℕ
listed_bytes [] = []
listed_bytes (x ∷ xs) = x.code ∷ x.label ∷ 0xF6 ∷ listed_bytes xs

-- without a report there is no such parameter
abbrev pub listed_report : List ErrorReport → Disposition
listed_report [] = Absent
listed_report (x ∷ xs) = Taken

-- label 8, the head of an array of at most fifteen members, and these
abbrev pub listed_pair : List ErrorReport → List ℕ
listed_pair [] = []
listed_pair (x ∷ xs) = 0x08 ∷ (0x80 + 3 * length (x ∷ xs)) ∷ listed_bytes (x ∷ xs)

pub record ListedAs : Type 0 where
  pub bytes : (f : ErrorReports) → valid_error_reports f ≡ true → bytes_in (listed_in f).value ≡ listed_bytes (error_report_list f)
  pub taken : (f : ErrorReports) → (listed_in f).disposition ≡ listed_report (error_report_list f)
  pub written : (f : ErrorReports) → valid_error_reports f ≡ true
      → encode_pairs (list_pairs 8 (at_least_one error_reports_in) (listed_in f)) ≡ listed_pair (error_report_list f)
  -- a short identifier that was malformed
  pub example :
      encode_pairs
      (list_pairs 8 (at_least_one error_reports_in)
      (listed_in (record { count = 1; reports = error_report_of 1 3 ∷ replicate 4 (error_report_of 0 0) })))
      ≡ 0x08 ∷ 0x83 ∷ 0x01 ∷ 0x03 ∷ 0xF6 ∷ []
