-- Codes and labels of reports are below 24, so each is a head of one byte; the list is in its limits, so it is written as its bytes.
use Prim.Native.Nat.{ℕ, ◌+◌, ◌*◌, ◌-◌, ◌<◌, ◌≤◌}
use native.Mathlib.Omega.{arith}
use mathlib.Core.Path.{◌≡◌, refl, ap, ap₂, ◌∙◌}
use mathlib.Core.Bool.{Bool, true, false, ◌||◌}
use mathlib.Core.List.{List, [], ◌∷◌, ◌++◌, append-nil}
use lib.Dec.{leb, eqb}
use lib.ListN.{length, replicate}
use lib.Seq.{take-append_seam}
use borrow.Author.Tests.{leb-true, eqb-true, lt-ltb}
use Rattle.byte_io.specs.BigEndian.{digits, bytes_of}
use Rattle.cbor.specs.Decode.{decode_by, heading, argument, next, major_of}
use Rattle.cbor.specs.Encode.{encode, encode_pairs, shortest, info_of, extra_of}
use Rattle.cbor.specs.Item.{array}
use Rattle.cbor.specs.View.{scalar_at}
use Rattle.cojp.specs.ListLemmas.{few-reports}
use Rattle.cojp.specs.ErrorReports.{error_report_list, is_reportable, valid_error_report, valid_error_reports}
use Rattle.cojp.specs.Lists.{written, bytes_in, error_reports_in, at_least_one, items_in}
use Rattle.cojp.specs.Octets.{padded}
use Rattle.cojp.specs.Writing.{list_pairs}
use Rattle.cojp.specs.declared.error_report.ErrorReport.{ErrorReport}
use Rattle.cojp.specs.declared.error_report.ErrorReports.{ErrorReports}
use Rattle.cojp_list.specs.Laws.{ListLaws}
use Rattle.cojp_list.specs.Listed.{members_of, listing, listed_in}
use Rattle.link_key.specs.set.Lists.{all_of}
use Rattle.lemmas.specs.logic.Tests.{both_left, both_right, never}
use Rattle.cojp_rfc9031_laws.specs.ListedAs.{listed_bytes, listed_report, listed_pair, ListedAs}

-- ---- heads of one byte
one_byte : (m n : ℕ) → n < 24 → shortest m n ≡ (m * 32 + n) ∷ []
unfolding shortest info_of extra_of bytes_of
one_byte m n h = rw (lt-ltb n 24 h)

label_small : (n : ℕ) → is_reportable n ≡ true → n < 24
label_small n e = by (eqb n 2) (eqb n 3) (eqb n 4) (eqb n 6) (eqb n 7) refl refl refl refl refl e
  where
    by : (a b c d f : Bool) → eqb n 2 ≡ a → eqb n 3 ≡ b → eqb n 4 ≡ c → eqb n 6 ≡ d → eqb n 7 ≡ f → (a || b || c || d || f) ≡ true → n < 24
    by true b c d f a₁ b₁ c₁ d₁ f₁ q = omega (arith, eqb-true n 2 a₁)
    by false true c d f a₁ b₁ c₁ d₁ f₁ q = omega (arith, eqb-true n 3 b₁)
    by false false true d f a₁ b₁ c₁ d₁ f₁ q = omega (arith, eqb-true n 4 c₁)
    by false false false true f a₁ b₁ c₁ d₁ f₁ q = omega (arith, eqb-true n 6 d₁)
    by false false false false true a₁ b₁ c₁ d₁ f₁ q = omega (arith, eqb-true n 7 f₁)
    by false false false false false a₁ b₁ c₁ d₁ f₁ q = never false q refl

-- ---- the members
members-written : (xs : List ErrorReport) → all_of valid_error_report xs ≡ true → written (members_of xs) ≡ listed_bytes xs
members-written [] h = refl
members-written (x ∷ xs) h =
    let own = both_left (valid_error_report x) (all_of valid_error_report xs) h in
    let low = leb-true x.code 1 (both_left (leb x.code 1) (is_reportable x.label) own) in
    let named = label_small x.label (both_right (leb x.code 1) (is_reportable x.label) own) in
    let zeros : (n : ℕ) → 0 * 32 + n ≡ n = λ n. omega arith in
    rw (
      one_byte 0 x.code (omega arith),
      one_byte 0 x.label named,
      one_byte 7 22 (omega arith),
      zeros x.code,
      zeros x.label,
      members-written xs (both_right (valid_error_report x) (all_of valid_error_report xs) h),
    )

each-valid : (f : ErrorReports) → valid_error_reports f ≡ true → all_of valid_error_report (error_report_list f) ≡ true
unfolding valid_error_reports
each-valid f e = both_right (leb f.count 5) (all_of valid_error_report (error_report_list f)) e

listing-bytes : (xs : List ErrorReport) → all_of valid_error_report xs ≡ true → bytes_in (listing xs).value ≡ listed_bytes xs
unfolding padded
listing-bytes [] h = refl
listing-bytes (x ∷ xs) h =
    let w = written (members_of (x ∷ xs)) in
    take-append_seam w (replicate (253 - length w) 0) ∙ members-written (x ∷ xs) h

listing-taken : (xs : List ErrorReport) → (listing xs).disposition ≡ listed_report xs
listing-taken [] = refl
listing-taken (x ∷ xs) = refl

-- ---- the pair
module _ (L : ListLaws) (f : ErrorReports) (valid : valid_error_reports f ≡ true) where
  pair-written : (xs : List ErrorReport) → error_report_list f ≡ xs
      → encode_pairs (list_pairs 8 (at_least_one error_reports_in) (listing xs)) ≡ listed_pair xs
  unfolding listed_in
  pair-written [] e = refl
  pair-written (x ∷ xs) e =
      let l = (listing (x ∷ xs)).value in
      let members : l.count ≡ 3 * length (x ∷ xs) = rw e at (L.listed-members f) in
      let few : length (x ∷ xs) ≤ 5 = rw e at (few-reports f valid) in
      let array-bytes = L.unsupported-written l (rw e at (L.listed-in-range f valid)) in
      let body = listing-bytes (x ∷ xs) (rw e at (each-valid f valid)) in
      let head = one_byte 4 l.count (omega arith) ∙ ap (λ (n : ℕ). (128 + n) ∷ []) members in
      let text : encode (array (items_in (at_least_one error_reports_in) l)) ≡ (128 + 3 * length (x ∷ xs)) ∷ listed_bytes (x ∷ xs) =
      array-bytes ∙ ap₂ (λ (a b : List ℕ). a ++ b) head body in
      ap₂ (λ (a b : List ℕ). a ++ (b ++ [])) (one_byte 0 8 (omega arith)) text
      ∙ ap (λ (b : List ℕ). 8 ∷ b) (append-nil ((128 + 3 * length (x ∷ xs)) ∷ listed_bytes (x ∷ xs)))

pub listed-as : ListLaws → ListedAs
unfolding listed_in shortest info_of extra_of bytes_of padded error_reports_in scalar_at decode_by heading argument next digits major_of
listed-as L = record {
  bytes = λ f valid. listing-bytes (error_report_list f) (each-valid f valid);
  taken = λ f. listing-taken (error_report_list f);
  written = λ f valid. pair-written L f valid (error_report_list f) refl;
  example = refl;
}
