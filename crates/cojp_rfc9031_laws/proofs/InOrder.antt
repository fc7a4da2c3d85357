-- What came is what the walk over the pairs noted. Reports are added one by one, so they are those of what came that are bad; each label
-- came once, and what is bad came.
use Rattle.std.specs.Prelude.{Ok}
use Prim.Native.Nat.{ℕ, ◌+◌, ◌≤◌}
use native.Mathlib.Omega.{arith}
use mathlib.Core.Path.{◌≡◌, refl, sym, ap, ◌∙◌}
use mathlib.Core.Bool.{Bool, true, false, cond, not}
use mathlib.Core.List.{List, [], ◌∷◌, ◌++◌, append-nil}
use lib.Dec.{eqb}
use lib.ListN.{length, length-append}
use lib.Seq.{append_snoc}
use borrow.Author.Tests.{eqb-true}
use Rattle.refusal.specs.RefusalLemmas.{refused-not}
use Rattle.refusal.specs.declared.Refusal.TheVariants as refusal
use Rattle.refusal.specs.Verdict.{Verdict}
use Rattle.byte_io.specs.BigEndian.{digits}
use Rattle.cbor.specs.Decode.{payload_by, decode_by, heading, argument, next, members, pairs, major_of}
use Rattle.cbor.specs.Encode.{info_of}
use Rattle.cbor.specs.Strict.{head_by}
use Rattle.cojp.specs.Configuration.{configuration_answer, configuration_form, empty_configuration, configuration_taking}
use Rattle.cojp.specs.ErrorReports.{no_error_reports, error_report_list, added}
use Rattle.cojp.specs.Lists.{error_reports_in}
use Rattle.cojp.specs.Octets.{octets_judged, padded}
use Rattle.cojp.specs.Parameter.{parameter_of, later_parameter}
use Rattle.cojp.specs.Rate.{rate_taken}
use Rattle.cojp.specs.Reading.{Reading, refused, read, bind}
use Rattle.cojp.specs.Reported.{is_bad, bad_in, bad_at, reports_on, error_reports_of}
use Rattle.cojp.specs.Request.{empty_request_state, role_judged, request_label_status, request_taking, owing, request_answer, request_form}
use Rattle.cojp.specs.Request.{settled}
use Rattle.cojp.specs.Walk.{payload_read_by, label_status_of}
use Rattle.cojp.specs.declared.configuration.Configuration.{Configuration}
use Rattle.cojp.specs.declared.error_report.ErrorReport.{ErrorReport}
use Rattle.cojp.specs.declared.error_report.ErrorReports.{ErrorReports}
use Rattle.cojp.specs.declared.disposition.Disposition.{Disposition}
use Rattle.cojp.specs.declared.disposition.Disposition.TheVariants.{Absent, Taken, Discarded}
use Rattle.cojp.specs.declared.request.RequestState.{RequestState}
use Rattle.protocol_version.specs.declared.Version.TheVariants.{Published}
use Rattle.lemmas.specs.logic.Tests.{never}
use Rattle.cojp_rfc9031_laws.specs.InOrder.{malformed, report_at, is_discarded, is_absent, bad_among, times_in}
use Rattle.cojp_rfc9031_laws.specs.InOrder.{ReportsInOrder, request_reports, role_in, RequestInOrder}
use Rattle.cojp_rfc9031_laws.specs.Labels.{configuration_labels, request_labels, is_in, Known, labels_of}
use Rattle.cojp_rfc9031_laws.specs.Labels.{known_in, labels_verdict, payload_verdict, pairs_in}
use Rattle.cojp_rfc9031_laws.proofs.Configurations.{Seen, five-most, malformed-long, configuration-agrees}
use Rattle.cojp_rfc9031_laws.proofs.Labels.{stood, flag, each_label}
use Rattle.cojp_rfc9031_laws.proofs.Noting.{Holds, none-held, added-held}
use Rattle.cojp_rfc9031_laws.proofs.Requests.{Asked, request-agrees}
use Rattle.cojp_rfc9031_laws.proofs.Walk.{Agrees}

-- ---- which labels are bad
bad-discarded : (r : Disposition) → is_bad r ≡ is_discarded r
bad-discarded Absent = refl
bad-discarded Taken = refl
bad-discarded Discarded = refl

bad-at : (c : Configuration) (n : ℕ) → bad_at (bad_in c) n ≡ is_discarded (report_at c n)
unfolding parameter_of later_parameter
bad-at c n =
    each_label (λ (m : ℕ). bad_at (bad_in c) m ≡ is_discarded (report_at c m)) n (bad-discarded c.keys.disposition)
    (bad-discarded c.address.disposition) (bad-discarded c.jrc.disposition) (bad-discarded c.blacklist.disposition)
    (bad-discarded c.rate.disposition)
    (λ x y z u w. rw (x, y, z, u, w))

-- ---- the reports of a configuration
reports-held : (c : Configuration) (xs : List ErrorReport) (f : ErrorReports) (ys : List ErrorReport) → Holds f ys →
    length ys + length xs ≤ 5 →
    Holds (reports_on (bad_in c) f xs) (ys ++ bad_among c xs)
reports-held c [] f ys h few = rw (append-nil ys) h
reports-held c (x ∷ xs) f ys h few =
    rw (bad-at c x.label)
    (by (is_discarded (report_at c x.label)) (λ g z i k. reports-held c xs g z i k))
  where
    by : (b : Bool) → ((g : ErrorReports) (zs : List ErrorReport) → Holds g zs → length zs + length xs ≤ 5 →
        Holds (reports_on (bad_in c) g xs) (zs ++ bad_among c xs)) →
        Holds (reports_on (bad_in c) (cond b (added f x.code x.label) f) xs) (ys ++ cond b (x ∷ bad_among c xs) (bad_among c xs))
    by true more =
        rw (append_snoc ys x (bad_among c xs)) at
        (more (added f x.code x.label) (ys ++ (x ∷ [])) (added-held f ys x.code x.label h (omega arith))
        (omega (arith, length-append ys (x ∷ []))))
    by false more = more f ys h (omega arith)

reports : (c : Configuration) → length (error_report_list c.labels) ≤ 5
    → error_report_list (error_reports_of c) ≡ bad_among c (error_report_list c.labels)
unfolding error_reports_of
reports c few = (reports-held c (error_report_list c.labels) no_error_reports [] none-held (omega arith)).reports

-- ---- how often a label is reported
times-bad : (c : Configuration) (n : ℕ) (xs : List ErrorReport)
    → times_in n (bad_among c xs) ≡ cond (is_discarded (report_at c n)) (times_in n xs) 0
times-bad c n [] = by (is_discarded (report_at c n))
  where
    by : (b : Bool) → ◌≡◌ {A = ℕ} 0 (cond b 0 0)
    by true = refl
    by false = refl
times-bad c n (x ∷ xs) =
    by (eqb n x.label) (is_discarded (report_at c x.label)) (is_discarded (report_at c n)) refl refl refl (times-bad c n xs)
  where
    by : (a d e : Bool) → eqb n x.label ≡ a → is_discarded (report_at c x.label) ≡ d → is_discarded (report_at c n) ≡ e →
        times_in n (bad_among c xs) ≡ cond e (times_in n xs) 0 →
        times_in n (cond d (x ∷ bad_among c xs) (bad_among c xs)) ≡ cond e (cond a (times_in n xs + 1) (times_in n xs)) 0
    by true true true p q r t = rw (p, t)
    by true false false p q r t = t
    by true true false p q r t = never true refl (sym q ∙ ap (λ (m : ℕ). is_discarded (report_at c m)) (sym (eqb-true n x.label p)) ∙ r)
    by true false true p q r t = never true refl (sym r ∙ ap (λ (m : ℕ). is_discarded (report_at c m)) (eqb-true n x.label p) ∙ q)
    by false true true p q r t = rw (p, t)
    by false true false p q r t = rw (p, t)
    by false false e p q r t = t

-- what is bad came
bad-met : (r : Disposition) (b : Bool) → is_discarded r ≡ true → label_status_of r ≡ stood b → b ≡ true
bad-met r true d s = refl
bad-met Absent false d s = d
bad-met Taken false d s = d
bad-met Discarded false d s = cc

module _ (ks : List Known) (c : Configuration) (h : Seen ks c) where
  met-if-bad : (n : ℕ) → is_discarded (report_at c n) ≡ true → is_in n (labels_of ks) ≡ true
  met-if-bad n =
      let at : (m : ℕ) (r : Disposition) → label_status_of r ≡ stood (is_in m (labels_of ks)) → is_discarded r ≡ true
      → is_in m (labels_of ks) ≡ true =
      λ m r s d. bad-met r (is_in m (labels_of ks)) d s in
      each_label (λ (m : ℕ). is_discarded (report_at c m) ≡ true → is_in m (labels_of ks) ≡ true) n (at 2 c.keys.disposition h.keys)
      (at 3 c.address.disposition h.address) (at 4 c.jrc.disposition h.jrc) (at 6 c.blacklist.disposition h.blacklist)
      (at 7 c.rate.disposition h.rate) (λ x y z u w q. never false (rw (x, y, z, u, w) at q) refl)

  once : (n : ℕ) → times_in n (error_report_list (error_reports_of c)) ≡ cond (is_discarded (report_at c n)) 1 0
  once n =
      let few : length (error_report_list c.labels) ≤ 5 =
      omega (arith, ap length h.met.reports, malformed-long ks, h.many-met, five-most (labels_of ks)) in
      ap (times_in n) (reports c few) ∙ times-bad c n (error_report_list c.labels)
      ∙ by (is_discarded (report_at c n)) (met-if-bad n) (ap (times_in n) h.met.reports ∙ h.alone n)
    where
      by : (b : Bool) → (b ≡ true → is_in n (labels_of ks) ≡ true) →
          times_in n (error_report_list c.labels) ≡ flag (is_in n (labels_of ks)) →
          cond b (times_in n (error_report_list c.labels)) 0 ≡ cond b 1 0
      by true f t = t ∙ ap flag (f refl)
      by false f t = refl

-- what did not come is absent
absent_by : (r : Disposition) (b : Bool) → label_status_of r ≡ stood b → is_absent r ≡ not b
absent_by Absent true s = cc
absent_by Absent false s = refl
absent_by Taken true s = refl
absent_by Taken false s = cc
absent_by Discarded true s = refl
absent_by Discarded false s = cc

absent : (ks : List Known) (c : Configuration) → Seen ks c → (n : ℕ) → is_in n configuration_labels ≡ true →
    is_absent (report_at c n) ≡ not (is_in n (labels_of ks))
absent ks c h n =
    let at : (m : ℕ) (r : Disposition) → label_status_of r ≡ stood (is_in m (labels_of ks)) → is_absent r ≡ not (is_in m (labels_of ks)) =
    λ m r s. absent_by r (is_in m (labels_of ks)) s in
    each_label (λ (m : ℕ). is_in m configuration_labels ≡ true → is_absent (report_at c m) ≡ not (is_in m (labels_of ks))) n
    (λ q. at 2 c.keys.disposition h.keys) (λ q. at 3 c.address.disposition h.address)
    (λ q. at 4 c.jrc.disposition h.jrc)
    (λ q. at 6 c.blacklist.disposition h.blacklist) (λ q. at 7 c.rate.disposition h.rate)
    (λ x y z u w q. never (is_in n configuration_labels) q (rw (x, y, z, u, w)))

-- ---- a payload that is accepted
module _ (w : Verdict) (ks : List Known) where
  met_of : (r : Reading Configuration) → Agrees w (Seen ks) r → (configuration_answer r).verdict ≡ Ok tt →
      error_report_list (configuration_answer r).configuration.labels ≡ malformed ks
  met_of (refused k) a e = refused-not k e
  met_of (read c) a e = a.1.met.reports

  once-of : (r : Reading Configuration) → Agrees w (Seen ks) r → (configuration_answer r).verdict ≡ Ok tt → (n : ℕ) →
      times_in n (error_report_list (error_reports_of (configuration_answer r).configuration))
      ≡ cond (is_discarded (report_at (configuration_answer r).configuration n)) 1 0
  once-of (refused k) a e n = refused-not k e
  once-of (read c) a e n = once ks c a.1 n

  absent-of : (r : Reading Configuration) → Agrees w (Seen ks) r → (configuration_answer r).verdict ≡ Ok tt → (n : ℕ) →
      is_in n configuration_labels ≡ true → is_absent (report_at (configuration_answer r).configuration n) ≡ not (is_in n (labels_of ks))
  absent-of (refused k) a e = refused-not k e
  absent-of (read c) a e = absent ks c a.1

module _ (w : Verdict) (ks : List Known) where
  request-of : (r : Reading RequestState) → Agrees w (Asked ks) r → (request_answer (bind r (settled Published))).verdict ≡ Ok tt →
      (error_report_list (request_answer (bind r (settled Published))).request.errors ≡ request_reports ks)
      × ((request_answer (bind r (settled Published))).request.role ≡ role_in ks)
  request-of (refused k) a e = refused-not k e
  request-of (read g) a e = by (owing Published g.request.role g.request.network.disposition) e
    where
      by : (b : Bool) → (request_answer (cond b (refused refusal.Owed) (read g.request))).verdict ≡ Ok tt →
          (error_report_list (request_answer (cond b (refused refusal.Owed) (read g.request))).request.errors ≡ request_reports ks)
          × ((request_answer (cond b (refused refusal.Owed) (read g.request))).request.role ≡ role_in ks)
      by true q = refused-not refusal.Owed q
      by false q = (a.1.faults.reports, a.1.reads)

-- ---- the examples are computed
pub met-in-order : ReportsInOrder
unfolding payload_by info_of decode_by heading argument next digits members pairs major_of octets_judged payload_read_by parameter_of
    later_parameter
    configuration_taking added rate_taken error_reports_of
met-in-order = record {
  met = λ strict p.
      met_of (payload_verdict (labels_verdict configuration_labels []) strict p) (known_in configuration_labels (pairs_in strict p))
      (payload_read_by (configuration_form Published) (head_by strict) empty_configuration p) (configuration-agrees strict p);
  reports = reports;
  once = λ strict p.
      once-of (payload_verdict (labels_verdict configuration_labels []) strict p) (known_in configuration_labels (pairs_in strict p))
      (payload_read_by (configuration_form Published) (head_by strict) empty_configuration p) (configuration-agrees strict p);
  absent = λ strict p.
      absent-of (payload_verdict (labels_verdict configuration_labels []) strict p) (known_in configuration_labels (pairs_in strict p))
      (payload_read_by (configuration_form Published) (head_by strict) empty_configuration p) (configuration-agrees strict p);
  example = refl;
}

pub request-in-order : RequestInOrder
unfolding payload_by info_of decode_by heading argument next digits members pairs major_of octets_judged padded payload_read_by role_judged
    request_label_status request_taking owing added error_reports_in
request-in-order = record {
  reports = λ strict p e.
      (request-of (payload_verdict (labels_verdict request_labels []) strict p) (known_in request_labels (pairs_in strict p))
      (payload_read_by (request_form Published) (head_by strict) empty_request_state p) (request-agrees strict p) e).0;
  role = λ strict p e.
      (request-of (payload_verdict (labels_verdict request_labels []) strict p) (known_in request_labels (pairs_in strict p))
      (payload_read_by (request_form Published) (head_by strict) empty_request_state p) (request-agrees strict p) e).1;
  example = refl;
}
