-- A report that may be made, added to others that may be made, leaves them so: five places hold five of them.
use Prim.Native.Nat.{ℕ, ◌+◌, ◌≤◌}
use native.Mathlib.Numerals.{add-one}
use native.Mathlib.Omega.{arith}
use mathlib.Core.Path.{◌≡◌, refl, ◌∙◌}
use mathlib.Core.Bool.{Bool, true, false, cond}
use mathlib.Core.List.{List, [], ◌∷◌, ◌++◌}
use lib.Dec.{leb, ltb}
use lib.ListN.{length, set, length-set}
use lib.Seq.{take-suc-set}
use borrow.Author.Tests.{le-leb, ltb-true, eqb-true}
use Rattle.link_key.specs.set.Lists.{all_of}
use Rattle.lemmas.specs.logic.Tests.{both, both_left, both_right}
use Rattle.cojp.specs.ErrorReports.{error_report_of, no_error_reports, error_report_list}
use Rattle.cojp.specs.ErrorReports.{valid_error_report, valid_error_reports, error_reports_valid, added}
use Rattle.cojp.specs.InRange.{ErrorReportsValid}
use Rattle.cojp.specs.Reported.{bad_in, bad_at, reports_on, error_reports_of}
use Rattle.cojp.specs.declared.error_report.ErrorReport.{ErrorReport}
use Rattle.cojp.specs.declared.error_report.ErrorReports.{ErrorReports}
use Rattle.cojp.specs.declared.reported.Bad.{Bad}
use Rattle.protocol_version.specs.declared.Version.TheVariants.{Draft, Published}

pub record Listed (f : ErrorReports) : Type 0 where
  pub places : length f.reports ≡ 5
  pub few : f.count ≤ 5
  pub each : all_of valid_error_report (error_report_list f) ≡ true

pub none-listed : Listed no_error_reports
none-listed = record { places = refl; few = omega arith; each = refl }

all_snoc : (xs : List ErrorReport) (x : ErrorReport) → all_of valid_error_report xs ≡ true → valid_error_report x ≡ true
    → all_of valid_error_report (xs ++ (x ∷ [])) ≡ true
all_snoc [] x h e = both (valid_error_report x) true e refl
all_snoc (y ∷ ys) x h e =
    both (valid_error_report y) (all_of valid_error_report (ys ++ (x ∷ []))) (both_left (valid_error_report y)
    (all_of valid_error_report ys) h)
    (all_snoc ys x (both_right (valid_error_report y) (all_of valid_error_report ys) h) e)

pub added-listed : (f : ErrorReports) (code label : ℕ) → Listed f → valid_error_report (error_report_of code label) ≡ true
    → Listed (added f code label)
unfolding added
added-listed f code label h e = go (ltb f.count 5) refl
  where
    x : ErrorReport
    x = error_report_of code label

    go : (b : Bool) → ltb f.count 5 ≡ b → Listed (cond b (record { count = f.count + 1; reports = set f.reports f.count x }) f)
    go false g = h
    go true g =
        let room = ltb-true f.count 5 g in
        record {
          places = length-set f.reports f.count x ∙ h.places;
          few = omega (arith, room);
          each =
              rw (add-one f.count, take-suc-set f.reports f.count x (omega (arith, room, h.places)))
              (all_snoc (error_report_list f) x h.each e);
        }

-- ---- the reports of a configuration
reports-listed : (b : Bad) (xs : List ErrorReport) (f : ErrorReports) → all_of valid_error_report xs ≡ true → Listed f
    → Listed (reports_on b f xs)
reports-listed b [] f e h = h
reports-listed b (x ∷ xs) f e h =
    let own = both_left (valid_error_report x) (all_of valid_error_report xs) e in
    let rest = both_right (valid_error_report x) (all_of valid_error_report xs) e in
    reports-listed b xs (cond (bad_at b x.label) (added f x.code x.label) f) rest
    (go (bad_at b x.label) (added-listed f x.code x.label h own))
  where
    go : (c : Bool) → Listed (added f x.code x.label) → Listed (cond c (added f x.code x.label) f)
    go true g = g
    go false g = h

pub listed-valid : (f : ErrorReports) → Listed f → valid_error_reports f ≡ true
unfolding valid_error_reports
listed-valid f h = both (leb f.count 5) (all_of valid_error_report (error_report_list f)) (le-leb _ _ h.few) h.each

pub reports-fit : ErrorReportsValid
unfolding error_reports_valid valid_error_reports error_reports_of
reports-fit Draft c e = rw (eqb-true c.labels.count 0 e)
reports-fit Published c e =
    listed-valid (reports_on (bad_in c) no_error_reports (error_report_list c.labels))
    (reports-listed (bad_in c) (error_report_list c.labels) no_error_reports
    (both_right (leb c.labels.count 5) (all_of valid_error_report (error_report_list c.labels)) e) none-listed)
