-- The reports that a node keeps are at most five, so their list has room; each turn of the loop writes one more of them.
use Rattle.std.proofs.Common.{add-one, drop-cons, drop_of_length-le}
use Rattle.std.specs.Prelude.{Option, Some, None, Result}
use Rattle.refusal.specs.declared.Refusal.{Refusal}
use Prim.Native.Nat.{ℕ, ◌+◌, ◌-◌, ◌*◌, ◌≤◌, ◌<◌}
use mathlib.Core.Path.{◌≡◌, refl, ap, ◌∙◌}
use mathlib.Core.List.{List, [], ◌∷◌, ◌++◌}
use native.Mathlib.Omega.{arith}
use lib.ListN.{length, take, drop, replicate, length-append, get_or}
use borrow.Author.Tests.{le-leb}
use Rattle.byte_io.specs.Write.{Did, emit}
use Rattle.cbor.specs.Encode.{shortest}
use Rattle.cbor.specs.HeadLaws.{HeadLaws}
use Rattle.lemmas.specs.lists.Prefix.{take-length-take}
use Rattle.cojp.specs.ErrorReports.{error_report_of, error_report_list}
use Rattle.cojp.specs.Lists.{Picked, picked, before, fitting, written, list_of, list_parameter, no_list_parameter}
use Rattle.cojp.specs.declared.error_report.ErrorReport.{ErrorReport}
use Rattle.cojp.specs.declared.error_report.ErrorReports.{ErrorReports}
use Rattle.cojp.specs.declared.list.ListParameter.{ListParameter}
use Rattle.cojp.specs.declared.disposition.Disposition.TheVariants.{Absent, Taken}
use Rattle.cojp_list.specs.Gathered.{GatheredAs}
use Rattle.cojp_list.specs.Listed.{members_of, listing, listed_in}
use Rattle.cojp_list.specs.declared.list.Gathered.{Gathered}
use Rattle.cojp_list.proofs.Gathering.{Gathering, Turn, list-bad, list-kept}

-- ---- the loop: the report at place i, and those after it
module _ (xs : List ErrorReport) (i : ℕ) where
  one_more : i < length xs →
      picked (members_of (drop i xs))
      ≡ before (members_of (get_or xs i (error_report_of 0 0) ∷ [])) (picked (members_of (drop (i + 1) xs)))
  one_more h = rw (add-one i, drop-cons xs i (error_report_of 0 0) h)

  pub none_more : length xs ≤ i → picked (members_of (drop i xs)) ≡ picked []
  none_more h = rw (drop_of_length-le xs h)

  pub report-turn : {whole : Picked} {d : List ℕ} {len members : ℕ} {d' : List ℕ} {r : Result ℕ Refusal} {q : List ℕ} →
      Gathering whole d (picked (members_of (drop i xs))) len members d' → i < length xs →
      Did (emit (written (members_of (get_or xs i (error_report_of 0 0) ∷ [])))) (take (length d' - len) (drop len d')) r q →
      Turn whole d (picked (members_of (drop i xs))) len members d' (members_of (get_or xs i (error_report_of 0 0) ∷ []))
      (picked (members_of (drop (i + 1) xs))) r q
  report-turn g h w = record { gathering = g; step = one_more h; put = w }

pub all-reports : (f : ErrorReports) (n : ℕ) → n ≡ length (error_report_list f) → take n f.reports ≡ error_report_list f
all-reports f n e = ap (λ (m : ℕ). take m f.reports) e ∙ take-length-take f.count f.reports

-- ---- the list
few_bytes : HeadLaws → (fs : List ErrorReport) → length (written (members_of fs)) ≤ 19 * length fs
few_bytes H [] = omega arith
few_bytes H (f ∷ fs) =
    let rest = written (members_of fs) in
    omega (
      arith,
      length-append (shortest 0 f.code) (shortest 0 f.label ++ (shortest 7 22 ++ rest)),
      length-append (shortest 0 f.label) (shortest 7 22 ++ rest),
      length-append (shortest 7 22) rest,
      H.length-head 0 f.code,
      H.length-head 0 f.label,
      H.short-head 7 22 (omega arith),
      H.extra-most f.code,
      H.extra-most f.label,
      few_bytes H fs,
    )

pub listed-none : (f : ErrorReports) → length (error_report_list f) ≡ 0 → no_list_parameter Absent ≡ listed_in f
unfolding listed_in
listed-none f e = go (error_report_list f) e
  where
    go : (xs : List ErrorReport) → length xs ≡ 0 → no_list_parameter Absent ≡ listing xs
    go [] h = refl
    go (x ∷ xs) h = absurd (omega arith)

listed-some : (f : ErrorReports) → ¬ (length (error_report_list f) ≡ 0)
    → list_parameter Taken (list_of (members_of (error_report_list f))) ≡ listed_in f
unfolding listed_in
listed-some f e = go (error_report_list f) e
  where
    go : (xs : List ErrorReport) → ¬ (length xs ≡ 0) → list_parameter Taken (list_of (members_of xs)) ≡ listing xs
    go [] h = absurd (h refl)
    go (x ∷ xs) h = refl

module _ (H : HeadLaws) (f : ErrorReports) (few : length (error_report_list f) ≤ 5) (r : Option Gathered) (d' : List ℕ)
    (w : GatheredAs (picked (members_of (error_report_list f))) (replicate 253 0) r d') where
  all_fit : fitting 253 (picked (members_of (error_report_list f))) ≡ picked (members_of (error_report_list f))
  all_fit = rw (le-leb (length (written (members_of (error_report_list f)))) 253 (omega (arith, few_bytes H (error_report_list f))))

  pub listed-bad : {A : Type 0} → r ≡ None → A
  listed-bad e =
      let z = all_fit in
      let y = list-bad (picked (members_of (error_report_list f))) (replicate 253 0) refl r d' w e in
      absurd (let x : ◌≡◌ {A = ℕ} 0 1 = cc in omega arith)

  pub listed_kept : ¬ (length (error_report_list f) ≡ 0) → {g : Gathered} → r ≡ Some g
      → ◌≡◌ {A = ListParameter} (record { disposition = Taken; value = record { count = g.members; len = g.len; bytes = d' } }) (listed_in f)
  listed_kept some {g} e =
      let y = list-kept (picked (members_of (error_report_list f))) (replicate 253 0) refl r d' w e in
      ap (λ a. list_parameter Taken a.value) y ∙ rw all_fit (listed-some f some)
