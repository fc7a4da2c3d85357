-- The reports of a payload of the published form, in payload order.
use Rattle.std.specs.Prelude.{ℕ, ◌+◌, ◌≤◌, ◌≡◌, Bool, true, false, cond, not, List, [], ◌∷◌, ◌++◌, eqb, leb, length, Ok}
use Rattle.cbor.specs.View.{number, minus, string, other, View, scalar, list}
use Rattle.cojp.specs.ErrorReports.{error_report_of, error_report_list}
use Rattle.cojp.specs.Lists.{unsupported_taken}
use Rattle.cojp.specs.Reading.{if_taken}
use Rattle.cojp.specs.Reported.{error_reports_of}
use Rattle.cojp.specs.declared.configuration.Configuration.{Configuration}
use Rattle.cojp.specs.declared.error_report.ErrorReport.{ErrorReport}
use Rattle.cojp.specs.declared.disposition.Disposition.{Disposition}
use Rattle.cojp.specs.declared.disposition.Disposition.TheVariants.{Absent, Taken, Discarded}
use Rattle.cojp_rfc9031_laws.specs.Labels.{configuration_labels, request_labels, is_in, Known, labels_of, known_in, pairs_in}
use Rattle.cojp_rfc9031_laws.specs.Verdicts.{configuration_of, request_of}

-- ---- a configuration
-- each as the report that it would get: 1 is malformed
abbrev pub malformed : List Known → List ErrorReport
malformed [] = []
malformed (k ∷ ks) = error_report_of 1 k.label ∷ malformed ks

-- what became of the parameter that a label names
abbrev pub report_at : Configuration → ℕ → Disposition
report_at c n =
    cond (eqb n 2)
    c.keys.disposition
    (cond (eqb n 3)
    c.address.disposition
    (cond (eqb n 4) c.jrc.disposition (cond (eqb n 6) c.blacklist.disposition (cond (eqb n 7) c.rate.disposition Absent))))

abbrev pub is_discarded : Disposition → Bool
is_discarded Absent = false
is_discarded Taken = false
is_discarded Discarded = true

abbrev pub is_absent : Disposition → Bool
is_absent Absent = true
is_absent Taken = false
is_absent Discarded = false

-- those whose parameter was bad, in their order
abbrev pub bad_among : Configuration → List ErrorReport → List ErrorReport
bad_among c [] = []
bad_among c (x ∷ xs) = cond (is_discarded (report_at c x.label)) (x ∷ bad_among c xs) (bad_among c xs)

-- how often a label is reported
abbrev pub times_in : ℕ → List ErrorReport → ℕ
times_in n [] = 0
times_in n (x ∷ xs) = cond (eqb n x.label) (times_in n xs + 1) (times_in n xs)

pub record ReportsInOrder : Type 0 where
  -- what came: the known labels of the map, in payload order
  pub met :
      (strict : Bool) (p : List ℕ) → (configuration_of strict p).verdict ≡ Ok tt →
      error_report_list (configuration_of strict p).configuration.labels ≡ malformed (known_in configuration_labels (pairs_in strict p))
  -- the reports of any configuration: the bad ones of what came; there are five places
  pub reports : (c : Configuration) → length (error_report_list c.labels) ≤ 5
      → error_report_list (error_reports_of c) ≡ bad_among c (error_report_list c.labels)
  -- so what was bad is reported once, and nothing else is
  pub once :
      (strict : Bool) (p : List ℕ) → (configuration_of strict p).verdict ≡ Ok tt → (n : ℕ) →
      let c = (configuration_of strict p).configuration in
      times_in n (error_report_list (error_reports_of c)) ≡ cond (is_discarded (report_at c n)) 1 0
  -- and a known label is absent exactly where it did not come
  pub absent :
      (strict : Bool) (p : List ℕ) → (configuration_of strict p).verdict ≡ Ok tt → (n : ℕ) → is_in n configuration_labels ≡ true →
      is_absent (report_at (configuration_of strict p).configuration n)
      ≡ not (is_in n (labels_of (known_in configuration_labels (pairs_in strict p))))
  -- all five bad, the last label first
  pub example :
      let p : List ℕ = 0xA5 ∷ 0x07 ∷ 0x40 ∷ 0x06 ∷ 0x00 ∷ 0x04 ∷ 0x00 ∷ 0x03 ∷ 0x00 ∷ 0x02 ∷ 0x00 ∷ [] in
      error_report_list (error_reports_of (configuration_of false p).configuration)
      ≡ error_report_of 1 7 ∷ error_report_of 1 6 ∷ error_report_of 1 4 ∷ error_report_of 1 3 ∷ error_report_of 1 2 ∷ []

-- ---- a join request
-- a role over 1 is unsupported, what is no unsigned number is malformed
abbrev pub role_reports : View → List ErrorReport
role_reports (scalar (number n)) = cond (leb n 1) [] (error_report_of 0 1 ∷ [])
role_reports (scalar (minus n)) = error_report_of 1 1 ∷ []
role_reports (scalar (string s)) = error_report_of 1 1 ∷ []
role_reports (scalar other) = error_report_of 1 1 ∷ []
role_reports (list ps) = error_report_of 1 1 ∷ []

-- a bad list of reports is malformed
abbrev pub list_reports : View → List ErrorReport
list_reports v = if_taken (unsupported_taken v).disposition [] (error_report_of 1 8 ∷ [])

-- what is reported of a known label's value; a bad network identifier is OWED, and not reported
abbrev pub reports_of : Known → List ErrorReport
reports_of k = cond (eqb k.label 1) (role_reports k.value) (cond (eqb k.label 8) (list_reports k.value) [])

abbrev pub request_reports : List Known → List ErrorReport
request_reports [] = []
request_reports (k ∷ ks) = reports_of k ++ request_reports ks

-- the role: 0 where there is none, and where it is bad
abbrev pub role_read : View → ℕ
role_read (scalar (number n)) = cond (leb n 1) n 0
role_read (scalar (minus n)) = 0
role_read (scalar (string s)) = 0
role_read (scalar other) = 0
role_read (list ps) = 0

abbrev pub role_in : List Known → ℕ
role_in [] = 0
role_in (k ∷ ks) = cond (eqb k.label 1) (role_read k.value) (role_in ks)

pub record RequestInOrder : Type 0 where
  pub reports :
      (strict : Bool) (p : List ℕ) → (request_of strict p).verdict ≡ Ok tt →
      error_report_list (request_of strict p).request.errors ≡ request_reports (known_in request_labels (pairs_in strict p))
  pub role :
      (strict : Bool) (p : List ℕ) → (request_of strict p).verdict ≡ Ok tt →
      (request_of strict p).request.role ≡ role_in (known_in request_labels (pairs_in strict p))
  -- a list of no reports, then a role of 2
  pub example :
      error_report_list (request_of false (0xA3 ∷ 0x08 ∷ 0x80 ∷ 0x05 ∷ 0x41 ∷ 0x00 ∷ 0x01 ∷ 0x02 ∷ [])).request.errors
      ≡ error_report_of 1 8 ∷ error_report_of 0 1 ∷ []
