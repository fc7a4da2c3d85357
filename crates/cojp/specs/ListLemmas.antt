-- Lemmas: nothing here has to be believed.
-- Members of a list as items, and how many error reports a valid list has.
use Rattle.std.specs.Prelude.{suc, ◌≤◌, ◌≡◌, refl, true, List, [], ◌∷◌, leb, length}
use Rattle.std.proofs.Common.{arith, ap, leb-true, length-take}
use Rattle.lemmas.specs.logic.Tests.{both_left}
use Rattle.cbor.specs.Item.{Fit, count, depth}
use Rattle.cbor.specs.View.{Scalar, number, minus, string, other, ScalarValid, scalar_of}
use Rattle.link_key.specs.set.Lists.{all_of}
use Rattle.cojp.specs.ErrorReports.{error_report_list, valid_error_report, valid_error_reports}
use Rattle.cojp.specs.Lists.{scalar_item, items_of}
use Rattle.cojp.specs.declared.error_report.ErrorReports.{ErrorReports}

pub scalar-back : (p : Scalar) → scalar_of (scalar_item p) ≡ p
scalar-back (number n) = refl
scalar-back (minus n) = refl
scalar-back (string s) = refl
scalar-back other = refl

pub scalar-depth : (p : Scalar) → depth (scalar_item p) ≤ 6
scalar-depth (number n) = omega arith
scalar-depth (minus n) = omega arith
scalar-depth (string s) = omega arith
scalar-depth other = omega arith

pub scalar-fit : (p : Scalar) → ScalarValid p → Fit (scalar_item p)
scalar-fit (number n) h = h
scalar-fit (minus n) h = h
scalar-fit (string s) h = h
scalar-fit other h = omega arith

pub items-count : (ps : List Scalar) → count (items_of ps) ≡ length ps
items-count [] = refl
items-count (p ∷ ps) = ap suc (items-count ps)

pub few-reports : (f : ErrorReports) → valid_error_reports f ≡ true → length (error_report_list f) ≤ 5
unfolding valid_error_reports
few-reports f e =
    omega (
      arith,
      leb-true f.count 5 (both_left (leb f.count 5) (all_of valid_error_report (error_report_list f)) e),
      length-take f.count f.reports,
    )
