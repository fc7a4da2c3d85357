-- A join request that is read: role, network identifier and reports are in their limits, and take no more bytes than their values did.
use Rattle.std.specs.Prelude.{Ok}
use Prim.Native.Nat.{ℕ, ◌+◌, ◌≤◌}
use native.Mathlib.Omega.{arith}
use mathlib.Core.Path.{◌≡◌, refl, sym, ap, subst, ◌∙◌}
use mathlib.Core.Bool.{Bool, true, false, cond}
use mathlib.Core.List.{List}
use lib.Dec.{leb, eqb}
use lib.ListN.{length}
use Rattle.refusal.specs.RefusalLemmas.{refused-not}
use Rattle.refusal.specs.declared.Refusal.TheVariants as refusal
use Rattle.cbor.specs.Decode.{heading}
use Rattle.cbor.specs.Encode.{encode_pairs}
use Rattle.cbor.specs.HeadLaws.{HeadLaws}
use Rattle.cbor.specs.Laws.{Bytes, ItemLaws}
use Rattle.cbor.specs.Strict.{head_by}
use Rattle.cbor.specs.View.{number, minus, string, other, View, scalar, list}
use Rattle.cojp.proofs.Walks.{Gives}
use Rattle.cojp.specs.Laws.{StrictReaders, meets_longer}
use Rattle.cojp.specs.Lists.{error_reports_in, at_least_one, unsupported_taken}
use Rattle.cojp.specs.Octets.{no_octets_parameter, octets_read}
use Rattle.cojp.specs.Reading.{Reading, refused, read, map_reading, bind, by_version_of, broken, unfit, good, if_taken}
use Rattle.cojp.specs.Request.{role_judged, empty_request_state, with_role, with_network, with_unsupported}
use Rattle.cojp.specs.Request.{with_errors, with_error, role_label_status, request_passing, request_label_status}
use Rattle.cojp.specs.Request.{role_gathered, list_gathered, request_taking, request_form, owing}
use Rattle.cojp.specs.Request.{settled, request_answer, refuse_request, read_request_by, read_request_as}
use Rattle.protocol_version.specs.Version.{by_version}
use Rattle.cojp.specs.Walk.{label_status_of, payload_read_by}
use Rattle.cojp.specs.Writing.{role_pairs, octets_pairs, list_pairs, octets_in_range, list_in_range, missing, request_in_range}
use Rattle.cojp.specs.declared.error_report.ErrorReports.{ErrorReports}
use Rattle.cojp.specs.declared.list.ListParameter.{ListParameter}
use Rattle.cojp.specs.declared.disposition.Disposition.{Disposition}
use Rattle.cojp.specs.declared.disposition.Disposition.TheVariants.{Absent, Taken, Discarded}
use Rattle.cojp.specs.declared.request.RequestState.{RequestState}
use Rattle.cojp.specs.declared.request.JoinRequest.{JoinRequest}
use Rattle.cojp.specs.declared.request.RequestRead.{RequestRead}
use Rattle.protocol_version.specs.declared.Version.{Version}
use Rattle.protocol_version.specs.declared.Version.TheVariants.{Draft, Published}
use Rattle.cojp.specs.declared.walk.LabelStatus.TheVariants.{Unknown, First}
use Rattle.cojp_rfc9031_laws.specs.InRange.{RequestReadsInRange}
use Rattle.cojp_rfc9031_laws.proofs.Bounded.{Within, payload-bound}
use Rattle.cojp_rfc9031_laws.proofs.Items.{view_size, ViewFits}
use Rattle.cojp_rfc9031_laws.proofs.KeptLists.{reports-picked}
use Rattle.cojp_rfc9031_laws.proofs.Parameters.{put-gives, following-gives, role-size, OctetsFine}
use Rattle.cojp_rfc9031_laws.proofs.Parameters.{octets-bad, octets-fine, ListFine, list-fine}

-- ---- what is written of a request takes m bytes at most after the map's head
abbrev pub role_bytes : JoinRequest → ℕ
role_bytes q = length (encode_pairs (role_pairs q.role))

abbrev pub network_bytes : JoinRequest → ℕ
network_bytes q = length (encode_pairs (octets_pairs 5 q.network))

abbrev pub list_bytes : JoinRequest → ℕ
list_bytes q = length (encode_pairs (list_pairs 8 (at_least_one error_reports_in) q.unsupported))

pub record Fine (v : Version) (m : ℕ) (g : RequestState) : Type 0 where
  pub role : leb g.request.role 1 ≡ true
  pub network : octets_in_range g.request.network ≡ true
  pub unsupported : by_version v (missing g.request.unsupported.disposition)
      (list_in_range (at_least_one error_reports_in) g.request.unsupported) ≡ true
  pub size : role_bytes g.request + network_bytes g.request + list_bytes g.request ≤ m

none-fine : (v : Version) → Fine v 0 empty_request_state
none-fine Draft = record { role = refl; network = refl; unsupported = refl; size = omega arith }
none-fine Published = record { role = refl; network = refl; unsupported = refl; size = omega arith }

wider : (v : Version) (m n : ℕ) (g : RequestState) → m ≤ n → Fine v m g → Fine v n g
wider v m n g l h = record { role = h.role; network = h.network; unsupported = h.unsupported; size = omega (arith, h.size) }

passing : (v : Version) (m : ℕ) (g : RequestState) → Fine v m g → Fine v m (request_passing g)
passing v m g h = record { role = h.role; network = h.network; unsupported = h.unsupported; size = h.size }

unknown-not : {A : Type 0} → Unknown ≡ First → A
unknown-not e = absurd (let z : ◌≡◌ {A = ℕ} 0 1 = cc in omega arith)

-- ---- a role
role-put : (v : Version) (m : ℕ) (g : RequestState) → Fine v m g → (x : View) (n : ℕ) (f : ErrorReports) → leb n 1 ≡ true →
    length (encode_pairs (role_pairs n)) ≤ 1 + view_size x → Fine v (m + (1 + view_size x)) (with_errors (with_role g n) f)
role-put v m g h x n f l s =
    record { role = l; network = h.network; unsupported = h.unsupported; size = omega (arith, h.size, s) }

role-bad : (v : Version) (m : ℕ) (g : RequestState) → Fine v m g → (x : View)
    → Gives (Fine v (m + (1 + view_size x))) (role_gathered v g broken)
role-bad Draft m g h x = tt
role-bad Published m g h x = role-put Published m g h x 0 _ refl (omega arith)

role-unfit : (v : Version) (m : ℕ) (g : RequestState) → Fine v m g → (x : View)
    → Gives (Fine v (m + (1 + view_size x))) (role_gathered v g unfit)
role-unfit Draft m g h x = tt
role-unfit Published m g h x = role-put Published m g h x 0 _ refl (omega arith)

role-good : HeadLaws → (v : Version) (m : ℕ) (g : RequestState) → Fine v m g → (n : ℕ) → leb n 1 ≡ true →
    Gives (Fine v (m + (1 + view_size (scalar (number n))))) (role_gathered v g (good n))
role-good H Draft m g h n e = role-put Draft m g h (scalar (number n)) n _ e (role-size H n)
role-good H Published m g h n e = role-put Published m g h (scalar (number n)) n _ e (role-size H n)

role-fine : HeadLaws → (v : Version) (m : ℕ) (g : RequestState) → Fine v m g → (x : View) →
    Gives (Fine v (m + (1 + view_size x))) (role_gathered v g (role_judged x))
unfolding role_judged
role-fine H v m g h (scalar (number n)) = by (leb n 1) refl
  where
    by : (b : Bool) → leb n 1 ≡ b → Gives (Fine v (m + (1 + view_size (scalar (number n))))) (role_gathered v g (cond b (good n) unfit))
    by true e = role-good H v m g h n e
    by false e = role-unfit v m g h (scalar (number n))
role-fine H v m g h (scalar (minus n)) = role-bad v m g h (scalar (minus n))
role-fine H v m g h (scalar (string s)) = role-bad v m g h (scalar (string s))
role-fine H v m g h (scalar other) = role-bad v m g h (scalar other)
role-fine H v m g h (list ps) = role-bad v m g h (list ps)

-- ---- a network identifier
network-fine : HeadLaws → (v : Version) (m : ℕ) (g : RequestState) → Fine v m g → (x : View) →
    Gives (Fine v (m + (1 + view_size x))) (map_reading (with_network g)
    (by_version_of v (no_octets_parameter Discarded) (octets_read 0 x)))
network-fine H v m g h x =
    put-gives (OctetsFine H 5 x) (Fine v (m + (1 + view_size x))) (with_network g)
    (by_version_of v (no_octets_parameter Discarded) (octets_read 0 x))
    (following-gives (OctetsFine H 5 x) v (no_octets_parameter Discarded) (octets_read 0 x) (octets-bad H 5 x Discarded refl refl)
    (octets-fine H 5 0 (omega arith) x))
    (λ p f. record { role = h.role; network = f.range; unsupported = h.unsupported; size = omega (arith, h.size, f.size) })

-- ---- a list of reports, in the published form alone
list_put : (m : ℕ) (g : RequestState) → Fine Published m g → (x : View) (p : ListParameter) →
    ListFine (at_least_one error_reports_in) 8 x p →
    Fine Published (m + (1 + view_size x)) (list_gathered g p)
list_put m g h x p f = by p.disposition
  where
    by : (r : Disposition) → Fine Published (m + (1 + view_size x))
        (if_taken r (with_unsupported g p) (with_error (with_unsupported g p) 1 8))
    by Taken = record { role = h.role; network = h.network; unsupported = f.range; size = omega (arith, h.size, f.size) }
    by Absent = record { role = h.role; network = h.network; unsupported = f.range; size = omega (arith, h.size, f.size) }
    by Discarded = record { role = h.role; network = h.network; unsupported = f.range; size = omega (arith, h.size, f.size) }

-- ---- a payload that is accepted
pub record Accepts (v : Version) (p : List ℕ) (q : JoinRequest) : Type 0 where
  pub gathered : RequestState
  pub within : Within (Fine v) p gathered
  pub is : q ≡ gathered.request
  pub owes_nothing : owing v q.role q.network.disposition ≡ false

pub in-range : (v : Version) (p : List ℕ) (q : JoinRequest) → Accepts v p q → request_in_range v q ≡ true
unfolding request_in_range
in-range v p q a =
    let h = a.within.holds in
    rw (a.is, h.role, h.network, h.unsupported)

module _ (laws : ItemLaws) (H : HeadLaws) where
  listed-fine : (v : Version) (m : ℕ) (g : RequestState) → Fine v m g → (b : Bool) →
      by_version v Unknown (cond b (label_status_of g.request.unsupported.disposition) Unknown) ≡ First → (x : View) → ViewFits x →
      Fine v (m + (1 + view_size x)) (list_gathered g (unsupported_taken x))
  listed-fine Draft m g h b e x f = unknown-not e
  listed-fine Published m g h b e x f =
      list_put m g h x (unsupported_taken x) (list-fine laws H (at_least_one error_reports_in) reports-picked 8 (omega arith) x f)

  taking : (v : Version) (m : ℕ) (g : RequestState) → Fine v m g → (n : ℕ) → request_label_status v g n ≡ First → (x : View) → ViewFits x →
      Gives (Fine v (m + (1 + view_size x))) (request_taking v g n x)
  unfolding request_label_status request_taking
  taking v m g h n e x f = by (eqb n 1) (eqb n 5) e
    where
      by : (a b : Bool) →
          cond a (role_label_status g.named)
          (cond b (label_status_of g.request.network.disposition)
          (by_version v Unknown (cond (eqb n 8) (label_status_of g.request.unsupported.disposition) Unknown)))
          ≡ First →
          Gives (Fine v (m + (1 + view_size x)))
          (cond a (role_gathered v g (role_judged x))
          (cond b (map_reading (with_network g) (by_version_of v (no_octets_parameter Discarded) (octets_read 0 x)))
          (read (list_gathered g (unsupported_taken x)))))
      by true b q = role-fine H v m g h x
      by false true q = network-fine H v m g h x
      by false false q = listed-fine v m g h (eqb n 8) q x f

  settled-accepts : (v : Version) (p : List ℕ) (r : Reading RequestState) → Gives (Within (Fine v) p) r →
      (request_answer (bind r (settled v))).verdict ≡ Ok tt → Accepts v p (request_answer (bind r (settled v))).request
  settled-accepts v p (refused k) w e = refused-not k e
  settled-accepts v p (read g) w e = by (owing v g.request.role g.request.network.disposition) refl e
    where
      by : (b : Bool) → owing v g.request.role g.request.network.disposition ≡ b →
          (request_answer (cond b (refused refusal.Owed) (read g.request))).verdict ≡ Ok tt →
          Accepts v p (request_answer (cond b (refused refusal.Owed) (read g.request))).request
      by true o q = refused-not refusal.Owed q
      by false o q = record { gathered = g; within = w; is = refl; owes_nothing = o }

  request-accepts : (v : Version) (p : List ℕ) → Bytes p → (read_request_as v p).verdict ≡ Ok tt →
      Accepts v p (read_request_as v p).request
  request-accepts v p b e =
      settled-accepts v p (payload_read_by (request_form v) heading empty_request_state p)
      (payload-bound (request_form v) (Fine v) (wider v) (passing v) (taking v) laws H empty_request_state (none-fine v) p b) e

  module _ (S : StrictReaders) where
    strict_same : (v : Version) (strict : Bool) (p : List ℕ) → (read_request_by v (head_by strict) p).verdict ≡ Ok tt →
        read_request_by v (head_by strict) p ≡ read_request_as v p
    strict_same v false p e = refl
    strict_same v true p e = S.request v p ∙ by (meets_longer p) (ap (λ (r : RequestRead). r.verdict) (sym (S.request v p)) ∙ e)
      where
        by : (b : Bool) → (cond b (refuse_request refusal.Loose) (read_request_as v p)).verdict ≡ Ok tt →
            cond b (refuse_request refusal.Loose) (read_request_as v p) ≡ read_request_as v p
        by true q = refused-not refusal.Loose q
        by false q = refl

    pub accepts : (v : Version) (strict : Bool) (p : List ℕ) → Bytes p → (read_request_by v (head_by strict) p).verdict ≡ Ok tt →
        Accepts v p (read_request_by v (head_by strict) p).request
    accepts v strict p b e =
        let same = strict_same v strict p e in
        subst (λ (r : RequestRead). Accepts v p r.request) (sym same)
        (request-accepts v p b (ap (λ (r : RequestRead). r.verdict) (sym same) ∙ e))

    pub reads-in-range : RequestReadsInRange
    reads-in-range v strict p b e =
        let q = (read_request_by v (head_by strict) p).request in
        let a = accepts v strict p b e in
        record { in-range = in-range v p q a; owes_nothing = a.owes_nothing }
