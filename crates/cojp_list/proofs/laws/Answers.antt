-- From the members that a kept list has.
use Rattle.std.proofs.Common.{refl}
use Rattle.cojp.specs.Lists.{strings_in, error_reports_in, at_least_one}
use Rattle.cojp_list.proofs.Back.{kept-parts, list_written, list_back, list_same, strings-again, some-again}
use Rattle.cojp_list.proofs.InRange.{listed-in-range, listed-long, listed-members}
use Rattle.cojp_list.proofs.laws.Goals as goal

pub returns : goal.returns
returns c = record {
  blacklist-written = λ l e. list_written strings_in l (kept-parts strings_in l e);
  blacklist-back = λ l e. let p = kept-parts strings_in l e in
      (_, list_back strings_in l p strings-again, refl, (list_same strings_in l p).0, (list_same strings_in l p).1);
  unsupported-written = λ l e. list_written (at_least_one error_reports_in) l (kept-parts (at_least_one error_reports_in) l e);
  unsupported-back = λ l e. let p = kept-parts (at_least_one error_reports_in) l e in (
    _,
    list_back (at_least_one error_reports_in) l p some-again,
    refl,
    (list_same (at_least_one error_reports_in) l p).0,
    (list_same (at_least_one error_reports_in) l p).1,
  );
  listed-in-range = listed-in-range;
  listed-long = listed-long;
  listed-members = listed-members;
}
