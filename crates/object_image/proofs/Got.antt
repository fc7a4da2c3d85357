-- A field that stands k bytes after a place is read k places further on, and is what the part gets there.
use Prim.Native.Nat.{ℕ, zero, suc, ◌+◌}
use mathlib.Core.Path.{◌≡◌, refl, ap, sym, ◌∙◌}
use mathlib.Core.Bool.{Bool}
use mathlib.Core.List.{List}
use native.Mathlib.Omega.{arith}
use lib.ListN.{take, drop, get_or}
use lib.Seq.{drop-drop, get_or-drop}
use Rattle.byte_io.specs.BigEndian.{big_endian}
use Rattle.image.specs.Part.{gets, Part}
use Rattle.cojp.specs.declared.error_report.ErrorReport.{ErrorReport}
use Rattle.cojp.specs.declared.disposition.Disposition.{Disposition}
use Rattle.cojp.specs.declared.disposition.Disposition.TheVariants.{Discarded}
use Rattle.object_image.specs.Address.{short_address_to, short_address_part}
use Rattle.object_image.specs.Codes.{disposition_of, disposition_part, bool_part}
use Rattle.object_image.specs.ErrorReports.{error_report_part, error_reports_to, error_reports_part}
use Rattle.object_image.specs.Lists.{list_to, list_part}
use Rattle.object_image.specs.Octets.{octets_to, octets_part}

-- ---- one byte
pub discarded : (n : ℕ) → ¬ (n ≡ 0) → ¬ (n ≡ 1) → Discarded ≡ disposition_of n
discarded zero h k = absurd (h refl)
discarded (suc zero) h k = absurd (k refl)
discarded (suc (suc n)) h k = refl

module _ (s : List ℕ) (at : ℕ) where
  pub here : get_or s at 0 ≡ get_or (drop at s) 0 0
  here = let e : at + 0 ≡ at = omega arith in sym (get_or-drop at s 0 0 ∙ ap (λ (i : ℕ). get_or s i 0) e)

  -- ---- fields one after the other
  -- a report, and the value after it
  pub parameter-here : {X P : Type 0} (q : Part X) (to : Disposition × X → P) {r : Disposition} {v : X}
      → r ≡ disposition_part.get (drop at s)
      → v ≡ q.get (drop (at + 1) s) → to (r, v) ≡ to (disposition_part.get (drop at s), q.get (drop 1 (drop at s)))
  parameter-here q to e f = rw (e, f, drop-drop 1 at s)

  pub octets-here : {n : ℕ} {b : List ℕ} → n ≡ big_endian (take 1 (drop at s)) → b ≡ take 16 (drop (at + 1) s)
      → octets_to (n, b) ≡ octets_part.get (drop at s)
  octets-here e f = rw (e, f, drop-drop 1 at s)

  pub address-here : {b : List ℕ} {l : Bool} {n : ℕ} → b ≡ take 2 (drop at s) → l ≡ bool_part.get (drop (at + 2) s)
      → n ≡ big_endian (take 8 (drop (at + 3) s)) → short_address_to (b, (l, n)) ≡ short_address_part.get (drop at s)
  address-here e f g = rw (e, f, g, drop-drop 1 2 (drop at s), drop-drop 2 at s, drop-drop 3 at s)

  pub list-here : {n l : ℕ} {b : List ℕ} → n ≡ big_endian (take 1 (drop at s)) → l ≡ big_endian (take 1 (drop (at + 1) s))
      → b ≡ take 253 (drop (at + 2) s) → list_to (n, (l, b)) ≡ list_part.get (drop at s)
  list-here e f g = rw (e, f, g, drop-drop 1 1 (drop at s), drop-drop 1 at s, drop-drop 2 at s)

  pub reports-here : {n : ℕ} {xs : List ErrorReport} → n ≡ big_endian (take 1 (drop at s)) → xs ≡ gets error_report_part 5 (drop (at + 1) s)
      → error_reports_to (n, xs) ≡ error_reports_part.get (drop at s)
  reports-here e f = rw (e, f, ← drop-drop 1 at s) refl

  -- ---- which bytes are good

  pub good-later : {A : Type 0} (p : Part A) (k : ℕ) {r : Bool} → r ≡ p.good (drop (at + k) s) → r ≡ p.good (drop k (drop at s))
  good-later p k e = e ∙ ap p.good (sym (drop-drop k at s))
