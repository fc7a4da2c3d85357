-- What is written of a join request reads back as the same request: its parameters one after the other.
use Prim.Native.Nat.{ℕ, zero, suc, ◌≤◌}
use mathlib.Core.Path.{◌≡◌, refl, ◌∙◌}
use mathlib.Core.Bool.{Bool, not}
use native.Mathlib.Omega.{arith}
use lib.Dec.{eqb}
use borrow.Author.Tests.{not-false}
use Rattle.refusal.specs.declared.Refusal.TheVariants.{Range}
use Rattle.cbor.specs.Encode.{encode}
use Rattle.cbor.specs.HeadLaws.{HeadLaws}
use Rattle.cbor.specs.Item.{bytes, array, map_item}
use Rattle.cbor.specs.Laws.{ItemLaws, Bytes}
use Rattle.cbor.specs.Strict.{head_by}
use Rattle.cbor.specs.View.{View, view_of}
use Rattle.cbor.specs.declared.value.Label.TheVariants as label
use Rattle.cojp.specs.ErrorReports.{no_error_reports}
use Rattle.cojp.specs.Lists.{error_reports_in, at_least_one, no_list_parameter, unsupported_taken, items_in}
use Rattle.cojp.specs.Octets.{bytes_in, no_octets_parameter, octets_read}
use Rattle.cojp.specs.Reading.{read, if_taken}
use Rattle.cojp.specs.Request.{role_judged, request_state, empty_request_state, with_network, with_unsupported}
use Rattle.cojp.specs.Request.{request_label_status, request_taking, request_form, owing, accept_request, read_request_by}
use Rattle.cojp.specs.Walk.{pair_read, pairs_read}
use Rattle.cojp.specs.Writing.{join, role_pairs, octets_pairs, list_pairs, fits, owing_plan, request_pairs, request_in_range, request_plan}
use Rattle.cojp.specs.declared.list.ListParameter.{ListParameter}
use Rattle.cojp.specs.declared.octets.OctetsParameter.{OctetsParameter}
use Rattle.cojp.specs.declared.disposition.Disposition.{Disposition}
use Rattle.cojp.specs.declared.disposition.Disposition.TheVariants.{Absent, Taken, Discarded}
use Rattle.cojp.specs.declared.request.RequestState.{RequestState}
use Rattle.cojp.specs.declared.request.JoinRequest.{JoinRequest}
use Rattle.protocol_version.specs.declared.Version.{Version}
use Rattle.protocol_version.specs.declared.Version.TheVariants.{Draft, Published}
use Rattle.cojp_list.specs.Laws.{ListLaws}
use Rattle.cojp_write.proofs.octets.Limits.{request-fits}
use Rattle.cojp_write.specs.octets.Fits.{RequestFits}
use Rattle.cojp_laws.specs.RoundTrip.{RequestRoundTrip}
use Rattle.cojp_laws.proofs.Forms.{ReportsOf, reports-of, list-kept}
use Rattle.cojp_laws.proofs.ReadBack.{then, parameter-read, payload-read, following-good, kept_if}
use Rattle.cojp_laws.proofs.ReadBack.{octets_good, octets_back, octets-back, octets-same, list_good, list_back, list_back_lem, list_same}
use Rattle.cojp_laws.proofs.Sizes.{emits, fitted, owed_none, fine-request}

abbrev requested : ℕ → OctetsParameter → ListParameter → JoinRequest
requested role network unsupported =
    record { role = role; network = network; unsupported = unsupported; errors = no_error_reports; unknown = 0 }

-- a role that was written was seen
abbrev seen : ℕ → Bool
seen role = not (eqb role 0)

-- ---- the parameters, each in its turn
role-read : (v : Version) (n : ℕ) → n ≤ 1
    → pairs_read (request_form v) empty_request_state (role_pairs n)
    ≡ read (request_state (seen n) (requested n (no_octets_parameter Absent) (no_list_parameter Absent)))
unfolding role_judged request_label_status request_taking
role-read v zero h = refl
role-read Draft (suc zero) h = refl
role-read Published (suc zero) h = refl
role-read v (suc (suc n)) h = absurd (omega arith)

network-step : (v : Version) (g : RequestState) (x : View) (p : OctetsParameter) → g.request.network.disposition ≡ Absent
    → octets_read 0 x ≡ read p
    → pair_read (request_form v) g (label.Number 5) x ≡ read (with_network g p)
unfolding request_label_status request_taking
network-step v g x p a e = rw (a, following-good v (no_octets_parameter Discarded) p (octets_read 0 x) e)

unsupported-step : (v : Version) (g : RequestState) (x : View) (p : ListParameter) → v ≡ Published
    → g.request.unsupported.disposition ≡ Absent
    → unsupported_taken x ≡ p → p.disposition ≡ Taken → pair_read (request_form v) g (label.Number 8) x ≡ read (with_unsupported g p)
unfolding request_label_status request_taking
unsupported-step Draft g x p d a e t = absurd (let z : ◌≡◌ {A = ℕ} 0 1 = cc in omega arith)
unsupported-step Published g x p d a e t = rw (a, e, t)

module _ (lists : ListLaws) (v : Version) (q : JoinRequest) (f : RequestFits q) (u : ReportsOf v q.unsupported) where
  abbrev back : JoinRequest
  back = requested q.role (octets_back q.network) (list_back (at_least_one error_reports_in) q.unsupported)

  request-read : pairs_read (request_form v) empty_request_state (request_pairs q) ≡ read (request_state (seen q.role) back)
  request-read =
      let F = request_form v in
      let none = no_octets_parameter Absent in
      let no-list = no_list_parameter Absent in
      let o = q.network in
      let l = q.unsupported in
      let n = octets_back o in
      let state : OctetsParameter → ListParameter → RequestState = λ n l. request_state (seen q.role) (requested q.role n l) in
      let e1 =
      parameter-read F (state none no-list) 5 o.disposition (bytes (bytes_in o.value)) (λ p (u : Unit {0}). state p no-list)
      (octets_good o) none tt tt refl
      (λ e. network-step v (state none no-list) (view_of (bytes (bytes_in o.value))) (octets_good o) refl (octets-back o f.network e)) in
      let e2 =
      parameter-read F (state n no-list) 8 l.disposition (array (items_in (at_least_one error_reports_in) l.value))
      (λ p (u : Unit {0}). state n p) (list_good (at_least_one error_reports_in) l) no-list tt tt refl
      (λ e.
      let (p, k) = list-kept v (at_least_one error_reports_in) l u e in
      unsupported-step v (state n no-list) (view_of (array (items_in (at_least_one error_reports_in) l.value)))
      (list_good (at_least_one error_reports_in) l) p refl
      (list_back_lem (at_least_one error_reports_in) lists.unsupported-back l (λ t. k) e) refl) in
      then F (join (role_pairs q.role) (octets_pairs 5 o)) (list_pairs 8 (at_least_one error_reports_in) l) empty_request_state
      (state n no-list)
      (request_state (seen q.role) back)
      (then F (role_pairs q.role) (octets_pairs 5 o) empty_request_state (state none no-list) (state n no-list)
      (role-read v q.role f.role) e1)
      e2

-- only a taken identifier serves, before and after
owing-back : (v : Version) (role : ℕ) (r : Disposition) (p : OctetsParameter) → p.disposition ≡ Taken
    → owing v role (if_taken r p (no_octets_parameter Absent)).disposition ≡ owing v role r
unfolding owing
owing-back v role Absent p e = refl
owing-back v role Taken p e = rw e
owing-back v role Discarded p e = refl

pub request-round-trip : ItemLaws → HeadLaws → ListLaws → (q : JoinRequest) → Bytes q.unsupported.value.bytes → RequestRoundTrip q
unfolding request_plan
request-round-trip items heads lists q list v p e b =
    let s = encode (map_item (request_pairs q)) in
    let owes = owing v q.role q.network.disposition in
    let (a, f) = emits (not (request_in_range v q)) Range (owing_plan owes (fits s)) p e in
    let (o, x) = owed_none owes s p f in
    let (n, y) = fitted s p x in
    let h = not-false (request_in_range v q) a in
    let within = request-fits v q h in
    let reports = reports-of v q h in
    let owed = owing-back v q.role q.network.disposition (octets_good q.network) refl ∙ o in
    let back : read_request_by v (head_by b) p ≡ accept_request (back lists v q within reports) =
    rw (
      ← y,
      payload-read (request_form v) items b (request_pairs q) empty_request_state (fine-request heads items lists v q within reports list)
          (omega arith) n,
      request-read lists v q within reports,
      owed,
    ) in
    let l = q.unsupported in
    rw back (record {
      accepted = refl;
      same = record {
        role = refl;
        network = octets-same q.network;
        unsupported =
            list_same (at_least_one error_reports_in) lists.unsupported-back l
            (λ t. (list-kept v (at_least_one error_reports_in) l reports t).1);
      };
      network-kept = kept_if (λ (o : OctetsParameter). o.disposition) (octets_good q.network) (no_octets_parameter Absent)
          q.network.disposition refl refl;
      unsupported-kept = kept_if (λ (l : ListParameter). l.disposition) (list_good (at_least_one error_reports_in) l)
          (no_list_parameter Absent)
          l.disposition refl refl;
      unreported = refl;
      passed = refl;
    })
