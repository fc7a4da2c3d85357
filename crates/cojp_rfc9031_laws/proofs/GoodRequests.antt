-- The same of a join request: network identifier and list of reports are what their readers make of the values that came.
use Prim.Native.Nat.{ℕ}
use mathlib.Core.Path.{◌≡◌, refl, sym, subst}
use mathlib.Core.Bool.{Bool, true, false}
use mathlib.Core.List.{List, [], ◌∷◌, ◌++◌}
use lib.Dec.{eqb}
use Rattle.cbor.specs.HeadLaws.{HeadLaws}
use Rattle.cbor.specs.Strict.{head_by}
use Rattle.cbor.specs.View.{View}
use Rattle.cojp.specs.ErrorReports.{error_report_of}
use Rattle.cojp.specs.Lists.{unsupported_taken}
use Rattle.cojp.specs.Octets.{no_octets_parameter, octets_read}
use Rattle.cojp.specs.Reading.{malformed_as, if_taken, Judgement, broken, unfit, good}
use Rattle.cojp.specs.Request.{empty_request_state, with_unsupported, with_error, request_passing}
use Rattle.cojp.specs.Request.{role_judged, role_gathered, list_gathered, request_taking, request_form}
use Rattle.cojp.specs.Walk.{payload_read_by}
use Rattle.cojp.specs.declared.list.ListParameter.{ListParameter}
use Rattle.cojp.specs.declared.octets.OctetsParameter.{OctetsParameter}
use Rattle.cojp.specs.declared.disposition.Disposition.{Disposition}
use Rattle.cojp.specs.declared.disposition.Disposition.TheVariants.{Absent, Taken, Discarded}
use Rattle.cojp.specs.declared.request.RequestState.{RequestState}
use Rattle.protocol_version.specs.declared.Version.TheVariants.{Published}
use Rattle.lemmas.specs.logic.Tests.{never}
use Rattle.cojp_rfc9031_laws.specs.Good.{octets_as, NetworkJudged, list_as, EntriesJudged}
use Rattle.cojp_rfc9031_laws.specs.GoodValues.{CameAs, Requested}
use Rattle.cojp_rfc9031_laws.specs.InOrder.{list_reports}
use Rattle.cojp_rfc9031_laws.specs.Labels.{request_labels, is_in, Known, known_of, labels_of}
use Rattle.cojp_rfc9031_laws.specs.Labels.{known_in, pairs_in, labels_verdict, payload_verdict}
use Rattle.cojp_rfc9031_laws.proofs.CameAs.{took-both, met-others, met-first, Small, told-so}
use Rattle.cojp_rfc9031_laws.proofs.GoodLists.{entries-judged}
use Rattle.cojp_rfc9031_laws.proofs.GoodPlain.{network-judged}
use Rattle.cojp_rfc9031_laws.proofs.Requests.{Asked, none-asked, pass-asked, stands, takes, each-of-three}
use Rattle.cojp_rfc9031_laws.proofs.Walk.{Took, Agrees, payload-agrees}

abbrev NetworkOf : View → OctetsParameter → Type 0
NetworkOf x p = p ≡ malformed_as (no_octets_parameter Discarded) (octets_read 0 x)

abbrev ListOf : View → ListParameter → Type 0
ListOf x p = p ≡ unsupported_taken x

-- what is reported of it
abbrev ReportOf : View → Disposition → Type 0
ReportOf x r = list_reports x ≡ if_taken r [] (error_report_of 1 8 ∷ [])

pub record Kept (ks : List Known) (g : RequestState) : Type 0 where
  pub network : CameAs NetworkOf (octets_as Absent []) 5 ks g.request.network
  pub unsupported : CameAs ListOf (list_as Absent 0 []) 8 ks g.request.unsupported
  pub reported : CameAs ReportOf Absent 8 ks g.request.unsupported.disposition

none_kept : Kept [] empty_request_state
none_kept = record { network = refl; unsupported = refl; reported = refl }

pass_kept : (ks : List Known) (g : RequestState) → Kept ks g → Kept ks (request_passing g)
pass_kept ks g h = record { network = h.network; unsupported = h.unsupported; reported = h.reported }

module _ (ks : List Known) (g : RequestState) (h : Kept ks g) (v : View) where
  network-stays : (n : ℕ) → eqb 5 n ≡ false → CameAs NetworkOf (octets_as Absent []) 5 (ks ++ (known_of n v ∷ [])) g.request.network
  network-stays n e = met-others NetworkOf (octets_as Absent []) 5 g.request.network ks (known_of n v) e h.network

  list-stays : (n : ℕ) → eqb 8 n ≡ false → CameAs ListOf (list_as Absent 0 []) 8 (ks ++ (known_of n v ∷ [])) g.request.unsupported
  list-stays n e = met-others ListOf (list_as Absent 0 []) 8 g.request.unsupported ks (known_of n v) e h.unsupported

  report-stays : (n : ℕ) → eqb 8 n ≡ false → CameAs ReportOf Absent 8 (ks ++ (known_of n v ∷ [])) g.request.unsupported.disposition
  report-stays n e = met-others ReportOf Absent 8 g.request.unsupported.disposition ks (known_of n v) e h.reported

  role_kept : (j : Judgement ℕ) → Took (Kept (ks ++ (known_of 1 v ∷ []))) (role_gathered Published g j)
  role_kept broken = record { network = network-stays 1 refl; unsupported = list-stays 1 refl; reported = report-stays 1 refl }
  role_kept unfit = record { network = network-stays 1 refl; unsupported = list-stays 1 refl; reported = report-stays 1 refl }
  role_kept (good n) = record { network = network-stays 1 refl; unsupported = list-stays 1 refl; reported = report-stays 1 refl }

  list-kept : is_in 8 (labels_of ks) ≡ false → Kept (ks ++ (known_of 8 v ∷ [])) (list_gathered g (unsupported_taken v))
  list-kept f = by (unsupported_taken v).disposition
    where
      more : List Known
      more = ks ++ (known_of 8 v ∷ [])

      met : CameAs ListOf (list_as Absent 0 []) 8 more (unsupported_taken v)
      met = met-first ListOf (list_as Absent 0 []) 8 (unsupported_taken v) ks v f refl

      told : CameAs ReportOf Absent 8 more (unsupported_taken v).disposition
      told = met-first ReportOf Absent 8 (unsupported_taken v).disposition ks v f refl

      by : (r : Disposition) →
          Kept more (if_taken r (with_unsupported g (unsupported_taken v)) (with_error (with_unsupported g (unsupported_taken v)) 1 8))
      by Taken = record { network = network-stays 8 refl; unsupported = met; reported = told }
      by Absent = record { network = network-stays 8 refl; unsupported = met; reported = told }
      by Discarded = record { network = network-stays 8 refl; unsupported = met; reported = told }

  keeps : (n : ℕ) → is_in n request_labels ≡ true → is_in n (labels_of ks) ≡ false →
      Took (Kept (ks ++ (known_of n v ∷ []))) (request_taking Published g n v)
  unfolding request_taking
  keeps n =
      each-of-three
      (λ (m : ℕ). is_in m request_labels ≡ true → is_in m (labels_of ks) ≡ false →
      Took (Kept (ks ++ (known_of m v ∷ []))) (request_taking Published g m v)) n
      (λ e f. role_kept (role_judged v))
      (λ e f. record {
        network = met-first NetworkOf (octets_as Absent []) 5 _ ks v f refl;
        unsupported = list-stays 5 refl;
        reported = report-stays 5 refl;
      })
      (λ e f. list-kept f) (λ x y z e. never (is_in n request_labels) e (rw (x, y, z)))

-- ---- the whole payload
abbrev pub Both : List Known → RequestState → Type 0
Both ks g = Asked ks g × Kept ks g

pub request-kept : (strict : Bool) (p : List ℕ) →
    Agrees (payload_verdict (labels_verdict request_labels []) strict p) (Both (known_in request_labels (pairs_in strict p)))
    (payload_read_by (request_form Published) (head_by strict) empty_request_state p)
request-kept =
    payload-agrees (request_form Published) request_labels Both (λ ks g h. stands ks g h.0)
    (λ ks g h. (pass-asked ks g h.0, pass_kept ks g h.1))
    (λ ks g h n v e f.
    took-both (Asked (ks ++ (known_of n v ∷ []))) (Kept (ks ++ (known_of n v ∷ []))) (request_taking Published g n v)
    (takes ks g h.0 v n e f) (keeps ks g h.1 v n e f))
    empty_request_state (none-asked, none_kept)

pub requested : HeadLaws → (ks : List Known) (g : RequestState) → Small ks → Kept ks g → Requested ks g.request
requested H ks g s h = record {
  network =
      told-so NetworkOf NetworkJudged (octets_as Absent []) 5 g.request.network
      (λ x l e. subst (NetworkJudged x) (sym e) (network-judged x)) ks s h.network;
  unsupported =
      told-so ListOf EntriesJudged (list_as Absent 0 []) 8 g.request.unsupported
      (λ x l e. subst (EntriesJudged x) (sym e) (entries-judged H x l)) ks s h.unsupported;
  reported = h.reported;
}
