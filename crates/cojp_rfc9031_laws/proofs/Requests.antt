-- A join request of the published form: role, network identifier and list of reports tell which labels have come, the identifier is taken
-- exactly where its value is good, and what is bad is reported in its order.
use Prim.Native.Nat.{ℕ, ◌+◌, ◌≤◌, ◌<◌}
use native.Mathlib.Omega.{arith}
use mathlib.Core.Path.{◌≡◌, refl, sym, ap, ◌∙◌}
use mathlib.Core.Bool.{Bool, true, false, cond, ◌&&◌, ◌||◌, or-false}
use mathlib.Core.List.{List, [], ◌∷◌, ◌++◌, append-nil, append_assoc}
use lib.Dec.{eqb, leb}
use lib.ListN.{length, length-append}
use borrow.Author.Tests.{eqb-false, ne_eqb, le-leb}
use Rattle.cbor.specs.Strict.{head_by}
use Rattle.cbor.specs.View.{View, number, minus, string, other, scalar, list}
use Rattle.cojp.specs.ErrorReports.{error_report_of, added}
use Rattle.cojp.specs.Lists.{list_answer, fitting, in_array, error_reports_in, at_least_one, unsupported_taken}
use Rattle.cojp.specs.Octets.{no_octets_parameter, octets_parameter, octets_judged, octets_of, octets_read}
use Rattle.cojp.specs.Reading.{read, malformed_as, concluded, broken, unfit, good, if_taken}
use Rattle.cojp.specs.Request.{role_judged, empty_request_state, with_role, with_network, with_unsupported}
use Rattle.cojp.specs.Request.{with_errors, with_error, role_label_status, request_passing, request_label_status}
use Rattle.cojp.specs.Request.{role_gathered, list_gathered, request_taking, request_form}
use Rattle.cojp.specs.Walk.{label_status_of, payload_read_by}
use Rattle.cojp.specs.declared.error_report.ErrorReport.{ErrorReport}
use Rattle.cojp.specs.declared.error_report.ErrorReports.{ErrorReports}
use Rattle.cojp.specs.declared.list.ListParameter.{ListParameter}
use Rattle.cojp.specs.declared.disposition.Disposition.{Disposition}
use Rattle.cojp.specs.declared.disposition.Disposition.TheVariants.{Absent, Taken, Discarded}
use Rattle.cojp.specs.declared.request.RequestState.{RequestState}
use Rattle.protocol_version.specs.declared.Version.TheVariants.{Published}
use Rattle.cojp.specs.declared.walk.LabelStatus.TheVariants.{First, Repeated}
use Rattle.lemmas.specs.logic.Tests.{never, neither_left, neither_right}
use Rattle.cojp_rfc9031_laws.specs.InOrder.{reports_of, request_reports, role_read, role_in}
use Rattle.cojp_rfc9031_laws.specs.Labels.{request_labels, is_in, Known, known_of, labels_of}
use Rattle.cojp_rfc9031_laws.specs.Labels.{known_in, pairs_in, labels_verdict, payload_verdict}
use Rattle.cojp_rfc9031_laws.specs.Verdicts.{is_identifier, identified}
use Rattle.cojp_rfc9031_laws.proofs.Labels.{or_swap, in-snoc, stood, stands_by, stays, comes, flag, flag-most, at_label}
use Rattle.cojp_rfc9031_laws.proofs.Noting.{Holds, none-held, added-held}
use Rattle.cojp_rfc9031_laws.proofs.Values.{octets-met, list-met}
use Rattle.cojp_rfc9031_laws.proofs.Walk.{Took, Agrees, payload-agrees}

-- ---- one known label more
abbrev is_taken : Disposition → Bool
is_taken r = if_taken r true false

identified-snoc : (ks : List Known) (k : Known) →
    identified (ks ++ (k ∷ [])) ≡ ((eqb k.label 5 && is_identifier k.value) || identified ks)
identified-snoc [] k = refl
identified-snoc (j ∷ ks) k =
    let own = (eqb j.label 5 && is_identifier j.value) in
    let last = (eqb k.label 5 && is_identifier k.value) in
    ap (λ (b : Bool). (own || b)) (identified-snoc ks k) ∙ or_swap own last (identified ks)

reports-snoc : (ks : List Known) (k : Known) → request_reports (ks ++ (k ∷ [])) ≡ request_reports ks ++ reports_of k
reports-snoc [] k = append-nil (reports_of k)
reports-snoc (j ∷ ks) k =
    ap (λ (l : List ErrorReport). reports_of j ++ l) (reports-snoc ks k)
    ∙ sym (append_assoc (reports_of j) (request_reports ks) (reports_of k))

role-others : (ks : List Known) (k : Known) → eqb k.label 1 ≡ false → role_in (ks ++ (k ∷ [])) ≡ role_in ks
role-others [] k e = rw e
role-others (j ∷ ks) k e = ap (λ (n : ℕ). cond (eqb j.label 1) (role_read j.value) n) (role-others ks k e)

role-first : (ks : List Known) (v : View) → is_in 1 (labels_of ks) ≡ false → role_in (ks ++ (known_of 1 v ∷ [])) ≡ role_read v
role-first [] v e = refl
role-first (j ∷ ks) v e =
    let another : eqb j.label 1 ≡ false =
    ne_eqb j.label 1 (λ q. eqb-false 1 j.label (neither_left (eqb 1 j.label) (is_in 1 (labels_of ks)) e) (sym q)) in
    rw another (role-first ks v (neither_right (eqb 1 j.label) (is_in 1 (labels_of ks)) e))

-- ---- values
identifier-good : (v : View) → is_taken (malformed_as (no_octets_parameter Discarded) (octets_read 0 v)).disposition ≡ is_identifier v
unfolding octets_judged
identifier-good (scalar (string s)) = rw (le-leb 0 (length s) (omega arith)) (by (leb (length s) 16))
  where
    by : (b : Bool) →
        is_taken (malformed_as (no_octets_parameter Discarded)
        (concluded (read (no_octets_parameter Discarded)) (octets_parameter Taken) (cond b (good (octets_of s)) unfit))).disposition ≡ b
    by true = refl
    by false = refl
identifier-good (scalar (number n)) = refl
identifier-good (scalar (minus n)) = refl
identifier-good (scalar other) = refl
identifier-good (list ps) = refl

-- an identifier that has not come is not taken
fresh-none : (r : Disposition) → label_status_of r ≡ First → is_taken r ≡ false
fresh-none Absent e = refl
fresh-none Taken e = cc
fresh-none Discarded e = refl

-- ---- what came
pub record Asked (ks : List Known) (g : RequestState) : Type 0 where
  pub role : role_label_status g.named ≡ stood (is_in 1 (labels_of ks))
  pub network : label_status_of g.request.network.disposition ≡ stood (is_in 5 (labels_of ks))
  pub unsupported : label_status_of g.request.unsupported.disposition ≡ stood (is_in 8 (labels_of ks))
  pub reads : g.request.role ≡ role_in ks
  -- the identifier is taken where it is good
  pub due : is_taken g.request.network.disposition ≡ identified ks
  pub few : length (request_reports ks) ≤ flag (is_in 1 (labels_of ks)) + flag (is_in 8 (labels_of ks))
  pub faults : Holds g.request.errors (request_reports ks)

pub none-asked : Asked [] empty_request_state
none-asked = record { role = refl; network = refl; unsupported = refl; reads = refl; due = refl; few = omega arith; faults = none-held }

pub pass-asked : (ks : List Known) (g : RequestState) → Asked ks g → Asked ks (request_passing g)
pass-asked ks g h = record {
  role = h.role;
  network = h.network;
  unsupported = h.unsupported;
  reads = h.reads;
  due = h.due;
  few = h.few;
  faults = h.faults;
}

-- role, network identifier and reports, and all others
pub each-of-three : (P : ℕ → Type 0) (n : ℕ) → P 1 → P 5 → P 8 → (eqb n 1 ≡ false → eqb n 5 ≡ false → eqb n 8 ≡ false → P n) → P n
each-of-three P n a b c others = at_label P n 1 a (λ x. at_label P n 5 b (λ y. at_label P n 8 c (λ z. others x y z)))

pub stands : (ks : List Known) (g : RequestState) → Asked ks g → (n : ℕ)
    → request_label_status Published g n ≡ stands_by request_labels (labels_of ks) n
unfolding request_label_status
stands ks g h n =
    each-of-three (λ (m : ℕ). request_label_status Published g m ≡ stands_by request_labels (labels_of ks) m) n h.role h.network
    h.unsupported
    (λ x y z. rw (x, y, z))

-- ---- one label more
module _ (ks : List Known) (g : RequestState) (h : Asked ks g) (v : View) where
  abbrev more : ℕ → List Known
  more n = ks ++ (known_of n v ∷ [])

  -- there is room for a report
  room : length (request_reports ks) < 5
  room = omega (arith, h.few, flag-most (is_in 1 (labels_of ks)), flag-most (is_in 8 (labels_of ks)))

  -- with no report, and with one
  silent : (n : ℕ) → reports_of (known_of n v) ≡ [] → Holds g.request.errors (request_reports (more n))
  silent n e = rw (reports-snoc ks (known_of n v), e, append-nil (request_reports ks)) h.faults

  told : (n code label : ℕ) → reports_of (known_of n v) ≡ error_report_of code label ∷ [] →
      Holds (added g.request.errors code label) (request_reports (more n))
  told n code label e =
      rw (reports-snoc ks (known_of n v), e) (added-held g.request.errors (request_reports ks) code label h.faults room)

  -- so many labels, so many reports at most
  few-more : (n : ℕ) (x : List ErrorReport) → reports_of (known_of n v) ≡ x →
      length x + (flag (is_in 1 (labels_of ks)) + flag (is_in 8 (labels_of ks)))
      ≤ flag (is_in 1 (labels_of (more n))) + flag (is_in 8 (labels_of (more n))) →
      length (request_reports (more n)) ≤ flag (is_in 1 (labels_of (more n))) + flag (is_in 8 (labels_of (more n)))
  few-more n x e l =
      omega (
        arith,
        ap length (reports-snoc ks (known_of n v)),
        length-append (request_reports ks) (reports_of (known_of n v)),
        ap length e,
        h.few,
        l,
      )

  -- a role
  role-asked : is_in 1 (labels_of ks) ≡ false → (n : ℕ) → n ≡ role_read v → (f : ErrorReports) (x : List ErrorReport) →
      reports_of (known_of 1 v) ≡ x → length x ≤ 1 → Holds f (request_reports (more 1)) → Asked (more 1) (with_errors (with_role g n) f)
  role-asked e n i f x r l held =
      let k = known_of 1 v in
      record {
        role = comes 1 ks k _ refl refl;
        network = stays 5 ks k _ refl h.network;
        unsupported = stays 8 ks k _ refl h.unsupported;
        reads = i ∙ sym (role-first ks v e);
        due = h.due ∙ sym (identified-snoc ks k);
        few = few-more 1 x r (rw (in-snoc 1 ks k, in-snoc 8 ks k, e) (omega arith));
        faults = held;
      }

  take-role : is_in 1 (labels_of ks) ≡ false → Took (Asked (more 1)) (role_gathered Published g (role_judged v))
  unfolding role_judged
  take-role e = by v refl
    where
      number-case : (n : ℕ) → v ≡ scalar (number n) → (b : Bool) → leb n 1 ≡ b →
          Took (Asked (more 1)) (role_gathered Published g (cond b (good n) unfit))
      number-case n q true t =
          let none : reports_of (known_of 1 v) ≡ [] = rw (q, t) in
          role-asked e n (rw (q, t)) g.request.errors [] none (omega arith) (silent 1 none)
      number-case n q false t =
          let one : reports_of (known_of 1 v) ≡ error_report_of 0 1 ∷ [] = rw (q, t) in
          role-asked e 0 (rw (q, t)) (added g.request.errors 0 1) (error_report_of 0 1 ∷ []) one (omega arith) (told 1 0 1 one)

      bad : reports_of (known_of 1 v) ≡ error_report_of 1 1 ∷ [] → 0 ≡ role_read v →
          Took (Asked (more 1)) (role_gathered Published g broken)
      bad one zero = role-asked e 0 zero (added g.request.errors 1 1) (error_report_of 1 1 ∷ []) one (omega arith) (told 1 1 1 one)

      by : (w : View) → v ≡ w → Took (Asked (more 1)) (role_gathered Published g (role_judged w))
      by (scalar (number n)) q = number-case n q (leb n 1) refl
      by (scalar (minus n)) q = bad (rw q) (rw q)
      by (scalar (string s)) q = bad (rw q) (rw q)
      by (scalar other) q = bad (rw q) (rw q)
      by (list ps) q = bad (rw q) (rw q)

  -- a network identifier
  take-network : is_in 5 (labels_of ks) ≡ false → Asked (more 5)
      (with_network g (malformed_as (no_octets_parameter Discarded) (octets_read 0 v)))
  take-network e =
      let k = known_of 5 v in
      let unseen : identified ks ≡ false = sym h.due ∙ fresh-none g.request.network.disposition (h.network ∙ ap stood e) in
      record {
        role = stays 1 ks k _ refl h.role;
        network = comes 5 ks k _ refl (octets-met (octets_judged 0 v));
        unsupported = stays 8 ks k _ refl h.unsupported;
        reads = h.reads ∙ sym (role-others ks k refl);
        due = identifier-good v
            ∙ sym (identified-snoc ks k ∙ ap (λ (b : Bool). (is_identifier v || b)) unseen ∙ or-false (is_identifier v));
        few = few-more 5 [] refl (rw (in-snoc 1 ks k, in-snoc 8 ks k) (omega arith));
        faults = silent 5 refl;
      }

  -- a list of reports
  list-asked : is_in 8 (labels_of ks) ≡ false → (p : ListParameter) (f : ErrorReports) (x : List ErrorReport) →
      label_status_of p.disposition ≡ Repeated →
      reports_of (known_of 8 v) ≡ x → length x ≤ 1 → Holds f (request_reports (more 8)) →
      Asked (more 8) (with_errors (with_unsupported g p) f)
  list-asked e p f x s r l held =
      let k = known_of 8 v in
      record {
        role = stays 1 ks k _ refl h.role;
        network = stays 5 ks k _ refl h.network;
        unsupported = comes 8 ks k _ refl s;
        reads = h.reads ∙ sym (role-others ks k refl);
        due = h.due ∙ sym (identified-snoc ks k);
        few = few-more 8 x r (rw (in-snoc 1 ks k, in-snoc 8 ks k, e) (omega arith));
        faults = held;
      }

  take-list : is_in 8 (labels_of ks) ≡ false → Asked (more 8) (list_gathered g (unsupported_taken v))
  take-list e = by (unsupported_taken v).disposition refl
      (list-met (list_answer (fitting 253 (in_array (at_least_one error_reports_in) v))))
    where
      one : if_taken (unsupported_taken v).disposition [] (error_report_of 1 8 ∷ []) ≡ error_report_of 1 8 ∷ [] →
          Asked (more 8) (with_error (with_unsupported g (unsupported_taken v)) 1 8)
      one q =
          list-asked e (unsupported_taken v) (added g.request.errors 1 8) (error_report_of 1 8 ∷ [])
          (list-met (list_answer (fitting 253 (in_array (at_least_one error_reports_in) v)))) q (omega arith) (told 8 1 8 q)

      by : (r : Disposition) → (unsupported_taken v).disposition ≡ r → label_status_of (unsupported_taken v).disposition ≡ Repeated →
          Asked (more 8) (if_taken r (with_unsupported g (unsupported_taken v)) (with_error (with_unsupported g (unsupported_taken v)) 1 8))
      by Taken q s =
          let none : reports_of (known_of 8 v) ≡ [] = rw q in
          list-asked e (unsupported_taken v) g.request.errors [] s none (omega arith) (silent 8 none)
      by Discarded q s = one (rw q)
      by Absent q s = one (rw q)

  pub takes : (n : ℕ) → is_in n request_labels ≡ true → is_in n (labels_of ks) ≡ false →
      Took (Asked (more n)) (request_taking Published g n v)
  unfolding request_taking
  takes n =
      each-of-three
      (λ (m : ℕ). is_in m request_labels ≡ true → is_in m (labels_of ks) ≡ false → Took (Asked (more m)) (request_taking Published g m v)) n
      (λ e. take-role) (λ e. take-network) (λ e. take-list) (λ x y z e. never (is_in n request_labels) e (rw (x, y, z)))

-- ---- the whole payload
pub request-agrees : (strict : Bool) (p : List ℕ) →
    Agrees (payload_verdict (labels_verdict request_labels []) strict p) (Asked (known_in request_labels (pairs_in strict p)))
    (payload_read_by (request_form Published) (head_by strict) empty_request_state p)
request-agrees =
    payload-agrees (request_form Published) request_labels Asked stands pass-asked (λ ks g h n v. takes ks g h v n)
    empty_request_state none-asked
