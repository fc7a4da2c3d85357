-- What is promised of lists that are kept.
use Rattle.std.specs.Prelude.{◌*◌, ◌≡◌, true, List, ◌++◌, length}
use Rattle.cbor.specs.Encode.{encode, shortest}
use Rattle.cbor.specs.Item.{array}
use Rattle.cbor.specs.View.{Scalar, view_of}
use Rattle.cojp.specs.ErrorReports.{error_report_list, valid_error_reports}
use Rattle.cojp.specs.Lists.{Picked, fitting, strings_in, error_reports_in, at_least_one, in_array, list_answer, bytes_in, kept, items_in}
use Rattle.cojp.specs.Writing.{list_in_range}
use Rattle.cojp.specs.declared.error_report.ErrorReports.{ErrorReports}
use Rattle.cojp.specs.declared.list.ItemList.{ItemList}
use Rattle.cojp.specs.declared.list.ListRead.{ListRead}
use Rattle.cojp_list.specs.Listed.{listed_in}

-- the array of a list is the head of its count and its bytes
abbrev pub ListWritten : (List Scalar → Picked) → Type 0
ListWritten f = (l : ItemList) → kept f l ≡ true → encode (array (items_in f l)) ≡ shortest 4 l.count ++ bytes_in l

-- a list reads back as one of the same count and bytes
abbrev pub ListRoundTrip : (List Scalar → Picked) → Type 0
ListRoundTrip f =
    (l : ItemList) → kept f l ≡ true →
    (r : ListRead) × (list_answer (fitting 253 (in_array f (view_of (array (items_in f l))))) ≡ r)
    × (r.good ≡ true) × (r.value.count ≡ l.count) × (bytes_in r.value ≡ bytes_in l)

pub record ListLaws : Type 0 where
  pub blacklist-written : ListWritten strings_in
  pub blacklist-back : ListRoundTrip strings_in
  pub unsupported-written : ListWritten (at_least_one error_reports_in)
  pub unsupported-back : ListRoundTrip (at_least_one error_reports_in)
  -- the reports that may be kept make a list that may be written, three bytes each
  pub listed-in-range : (f : ErrorReports) → valid_error_reports f ≡ true
      → list_in_range (at_least_one error_reports_in) (listed_in f) ≡ true
  pub listed-long : (f : ErrorReports) → valid_error_reports f ≡ true → (listed_in f).value.len ≡ 3 * length (error_report_list f)
  pub listed-members : (f : ErrorReports) → (listed_in f).value.count ≡ 3 * length (error_report_list f)
