-- A report that may be made is three bytes, its code, its label and null, and these are read as the three members that were written.
use Prim.Native.Nat.{ℕ, zero, suc, ◌*◌, ◌≤◌}
use mathlib.Core.Path.{◌≡◌, refl, ap, sym, ◌∙◌, subst}
use mathlib.Core.Bool.{Bool, true, false}
use mathlib.Core.List.{List, [], ◌∷◌, ◌++◌}
use native.Mathlib.Omega.{arith}
use lib.Dec.{leb, eqb}
use lib.ListN.{length}
use lib.Seq.{take-append_seam}
use borrow.Author.Tests.{le-leb, leb-true, eqb-true, eq-eqb}
use Rattle.byte_io.specs.BigEndian.{digits, bytes_of}
use Rattle.cbor.specs.Decode.{decode_by, heading, argument, next, major_of}
use Rattle.cbor.specs.Encode.{shortest, info_of, extra_of}
use Rattle.cbor.specs.View.{Scalar, scalar_at}
use Rattle.lemmas.specs.lists.SameLemmas.{same_refl}
use Rattle.link_key.specs.set.Lists.{all_of}
use Rattle.lemmas.specs.logic.Tests.{both_left, both_right}
use Rattle.cojp.specs.ListLemmas.{few-reports}
use Rattle.cojp.specs.Bytes.{members_at}
use Rattle.cojp.specs.ErrorReports.{error_report_list, is_reportable, valid_error_report, valid_error_reports}
use Rattle.cojp.specs.Lists.{picked, written, error_reports_in, at_least_one, list_of, bytes_in, same_as, kept}
use Rattle.cojp.specs.Octets.{padded}
use Rattle.cojp.specs.Writing.{list_in_range}
use Rattle.cojp.specs.declared.error_report.ErrorReport.{ErrorReport}
use Rattle.cojp.specs.declared.error_report.ErrorReports.{ErrorReports}
use Rattle.cojp_list.specs.Listed.{members_of, listing, listed_in}
use Rattle.cojp_list.proofs.Gathering.{written-append}

never : {A : Type 0} → false ≡ true → A
never e = absurd (let z : ◌≡◌ {A = ℕ} 0 1 = cc in omega arith)

-- the bytes of a report, and what is read of them
abbrev Read : ℕ → ℕ → Type 0
Read code label = (n : ℕ) (l : List ℕ) →
    (written (members_of (record { code = code; label = label } ∷ [])) ≡ code ∷ label ∷ 0xf6 ∷ [])
    × (members_at (suc (suc (suc n))) (code ∷ label ∷ 0xf6 ∷ l) ≡ members_of (record { code = code; label = label } ∷ []) ++ members_at n l)

-- what holds of the five labels holds of each that may be reported
each_label : (P : ℕ → Type 0) → P 2 → P 3 → P 4 → P 6 → P 7 → (x : ℕ) → is_reportable x ≡ true → P x
each_label P a b c d e x h =
    by (eqb x 2) refl (λ k. by (eqb x 3) refl (λ l. by (eqb x 4) refl (λ m. by (eqb x 6) refl (λ n. by (eqb x 7) refl (λ o.
    never (sym (rw (k, l, m, n, o)) ∙ h)) e) d) c) b) a
  where
    by : {k : ℕ} (t : Bool) → eqb x k ≡ t → (eqb x k ≡ false → P x) → P k → P x
    by {k = k} true f g p = subst P (sym (eqb-true x k f)) p
    by {k = k} false f g p = g f

each-code : (P : ℕ → Type 0) → P 0 → P 1 → (x : ℕ) → leb x 1 ≡ true → P x
each-code P a b zero h = a
each-code P a b (suc zero) h = b
each-code P a b (suc (suc x)) h = absurd (omega (arith, leb-true (suc (suc x)) 1 h))

report-read : (code label : ℕ) → leb code 1 ≡ true → is_reportable label ≡ true → Read code label
unfolding shortest info_of extra_of bytes_of scalar_at decode_by heading argument next digits major_of
report-read code label h k =
    each-code (λ (c : ℕ). Read c label)
    (each_label (λ (x : ℕ). Read 0 x) (λ n l. (refl, refl)) (λ n l. (refl, refl)) (λ n l. (refl, refl)) (λ n l. (refl, refl))
    (λ n l. (refl, refl)) label k)
    (each_label (λ (x : ℕ). Read 1 x) (λ n l. (refl, refl)) (λ n l. (refl, refl)) (λ n l. (refl, refl)) (λ n l. (refl, refl))
    (λ n l. (refl, refl)) label k)
    code h

-- ---- all of them: three bytes each, read as they were written
abbrev bytes-of : List ErrorReport → List ℕ
bytes-of [] = []
bytes-of (x ∷ xs) = x.code ∷ x.label ∷ 0xf6 ∷ bytes-of xs

module _ (x : ErrorReport) (h : valid_error_report x ≡ true) where
  one : Read x.code x.label
  one = report-read x.code x.label (both_left (leb x.code 1) (is_reportable x.label) h)
      (both_right (leb x.code 1) (is_reportable x.label) h)

module _ (x : ErrorReport) (xs : List ErrorReport) (h : all_of valid_error_report (x ∷ xs) ≡ true) where
  first : valid_error_report x ≡ true
  first = both_left (valid_error_report x) (all_of valid_error_report xs) h

  others : all_of valid_error_report xs ≡ true
  others = both_right (valid_error_report x) (all_of valid_error_report xs) h

three-bytes : (xs : List ErrorReport) → all_of valid_error_report xs ≡ true → written (members_of xs) ≡ bytes-of xs
three-bytes [] h = refl
three-bytes (x ∷ xs) h =
    written-append (members_of (x ∷ [])) (members_of xs) ∙ rw ((one x (first x xs h) 0 []).0, three-bytes xs (others x xs h))

read_again : (xs : List ErrorReport) → all_of valid_error_report xs ≡ true
    → members_at (length (members_of xs)) (bytes-of xs) ≡ members_of xs
read_again [] h = refl
read_again (x ∷ xs) h =
    (one x (first x xs h) (length (members_of xs)) (bytes-of xs)).1
    ∙ ap (λ (ps : List Scalar). members_of (x ∷ []) ++ ps) (read_again xs (others x xs h))

all-kept : (xs : List ErrorReport) → error_reports_in (members_of xs) ≡ picked (members_of xs)
unfolding error_reports_in
all-kept [] = refl
all-kept (x ∷ xs) = rw (all-kept xs)

bytes-many : (xs : List ErrorReport) → length (bytes-of xs) ≡ 3 * length xs
bytes-many [] = refl
bytes-many (x ∷ xs) = omega (arith, bytes-many xs)

members-many : (xs : List ErrorReport) → length (members_of xs) ≡ 3 * length xs
members-many [] = refl
members-many (x ∷ xs) = omega (arith, members-many xs)

-- ---- the list
module _ (x : ErrorReport) (xs : List ErrorReport) (h : all_of valid_error_report (x ∷ xs) ≡ true) (n : length (x ∷ xs) ≤ 5) where
  abbrev ms : List Scalar
  ms = members_of (x ∷ xs)

  long : length (written ms) ≡ 3 * length (x ∷ xs)
  long = ap length (three-bytes (x ∷ xs) h) ∙ bytes-many (x ∷ xs)

  its-bytes : bytes_in (list_of ms) ≡ written ms
  unfolding padded
  its-bytes = take-append_seam (written ms) _

  its-members : members_at (length ms) (bytes_in (list_of ms)) ≡ ms
  its-members = rw (its-bytes, three-bytes (x ∷ xs) h) (read_again (x ∷ xs) h)

  its-limits : kept (at_least_one error_reports_in) (list_of ms) ≡ true
  unfolding kept same_as
  its-limits = rw (small, its-members, all-kept (x ∷ xs), small, same_refl (bytes_in (list_of ms)), eq-eqb (length ms) (length ms) refl)
    where
      small : leb (length (written ms)) 253 ≡ true
      small = le-leb (length (written ms)) 253 (omega (arith, long))

pub listed-in-range : (f : ErrorReports) → valid_error_reports f ≡ true → list_in_range (at_least_one error_reports_in) (listed_in f) ≡ true
unfolding valid_error_reports listed_in
listed-in-range f h =
    go (error_report_list f) (both_right (leb f.count 5) (all_of valid_error_report (error_report_list f)) h) (few-reports f h)
  where
    go : (xs : List ErrorReport) → all_of valid_error_report xs ≡ true → length xs ≤ 5
        → list_in_range (at_least_one error_reports_in) (listing xs) ≡ true
    go [] h n = refl
    go (x ∷ xs) h n = its-limits x xs h n

pub listed-long : (f : ErrorReports) → valid_error_reports f ≡ true → (listed_in f).value.len ≡ 3 * length (error_report_list f)
unfolding valid_error_reports listed_in
listed-long f h =
    go (error_report_list f) (both_right (leb f.count 5) (all_of valid_error_report (error_report_list f)) h) (few-reports f h)
  where
    go : (xs : List ErrorReport) → all_of valid_error_report xs ≡ true → length xs ≤ 5 → (listing xs).value.len ≡ 3 * length xs
    go [] h n = refl
    go (x ∷ xs) h n = long x xs h n

pub listed-members : (f : ErrorReports) → (listed_in f).value.count ≡ 3 * length (error_report_list f)
unfolding listed_in
listed-members f = go (error_report_list f)
  where
    go : (xs : List ErrorReport) → (listing xs).value.count ≡ 3 * length xs
    go [] = refl
    go (x ∷ xs) = members-many (x ∷ xs)
