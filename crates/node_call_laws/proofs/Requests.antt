-- A join request that is read of bytes fits its image: each known label takes what fits, and faults are a code and a label of one byte.
use Prim.Native.Nat.{ℕ, suc, ◌<◌}
use mathlib.Core.Path.{refl}
use mathlib.Core.Bool.{Bool}
use mathlib.Core.List.{List}
use native.Mathlib.Omega.{arith}
use borrow.Author.Tests.{leb-true}
use lib.Dec.{leb, eqb}
use Rattle.image.specs.Part.{AllBytes}
use Rattle.refusal.specs.declared.Refusal.TheVariants as refusal
use Rattle.cbor.specs.Strict.{head_by}
use Rattle.cbor.specs.View.{number, minus, string, other, View, scalar, list}
use Rattle.cojp.specs.Lists.{unsupported_taken}
use Rattle.cojp.specs.Octets.{no_octets_parameter, octets_read}
use Rattle.cojp.specs.Reading.{Reading, refused, read, bind, Judgement, broken, unfit, good, by_version_of}
use Rattle.cojp.specs.Request.{empty_request, role_judged, role_concluded, empty_request_state, with_role, with_network}
use Rattle.cojp.specs.Request.{with_unsupported, with_error, request_passing, request_label_status, role_gathered}
use Rattle.cojp.specs.Request.{list_gathered, request_taking, request_form, owing, settled, request_answer, read_request_by}
use Rattle.cojp.specs.Walk.{known_read, payload_read_by}
use Rattle.cojp.specs.declared.list.ListParameter.{ListParameter}
use Rattle.cojp.specs.declared.disposition.Disposition.TheVariants.{Absent, Discarded}
use Rattle.cojp.specs.declared.request.RequestState.{RequestState}
use Rattle.cojp.specs.declared.request.JoinRequest.{JoinRequest}
use Rattle.protocol_version.specs.declared.Version.{Version}
use Rattle.protocol_version.specs.declared.Version.TheVariants.{Draft, Published}
use Rattle.cojp.specs.declared.walk.LabelStatus.{LabelStatus}
use Rattle.cojp.specs.declared.walk.LabelStatus.TheVariants.{Unknown, First, Repeated}
use Rattle.object_image.specs.Lists.{list_parameter_part}
use Rattle.object_image.specs.Octets.{octets_parameter_part}
use Rattle.object_image.specs.Request.{request_image}
use Rattle.node_call_laws.proofs.Items.{ViewOk}
use Rattle.node_call_laws.proofs.Lists.{by_cond}
use Rattle.node_call_laws.proofs.Parameters.{ReadOk, JudgedOk, concluded-ok, octets-read}
use Rattle.node_call_laws.proofs.Parameters.{unsupported-taken, no-octets-fit, no-list-fits}
use Rattle.node_call_laws.proofs.Values.{by-report, no-faults-fit, added-fits}
use Rattle.node_call_laws.proofs.Walks.{put-ok, onward-ok, following-ok, Fitting, payload-read}

abbrev RequestFits : JoinRequest → Type 0
RequestFits q = request_image.Fit q

abbrev GatheredFits : RequestState → Type 0
GatheredFits g = RequestFits g.request

abbrev Reads : ℕ → RequestState → Type 0
Reads m g = Fitting GatheredFits (λ (h : RequestState). h.request.unknown) m g

-- ---- the role
abbrev Small : ℕ → Type 0
Small n = n < 256

role-judged : (x : View) → JudgedOk Small (role_judged x)
unfolding role_judged
role-judged (scalar (number n)) =
    by_cond (JudgedOk Small) (leb n 1) (λ e. let low = leb-true n 1 e in omega arith) (λ _. refl)
role-judged (scalar (string s)) = refl
role-judged (scalar (minus n)) = refl
role-judged (scalar other) = refl
role-judged (list ps) = refl

module _ (g : RequestState) (m : ℕ) (f : Reads m g) where
  with-role : (n : ℕ) → Small n → Reads m (with_role g n)
  with-role n h = ((h, f.0.1), f.1)

  with-fault : (code label : ℕ) → Small code → Small label → Reads m (with_error g code label)
  with-fault code label a b = (
    (f.0.0, (f.0.1.0, (f.0.1.1.0, (added-fits g.request.errors code label a b f.0.1.1.1.0, f.0.1.1.1.1)))),
    f.1,
  )

  with-unsupported : (p : ListParameter) → list_parameter_part.Fit p → Reads m (with_unsupported g p)
  with-unsupported p h = ((f.0.0, (f.0.1.0, (h, f.0.1.1.1))), f.1)

module _ (v : Version) where
  -- ---- what each label takes
  module _ (g : RequestState) (m : ℕ) (f : Reads m g) where
    role-taken : (w : Version) (j : Judgement ℕ) → JudgedOk Small j → ReadOk (Reads m) (role_gathered w g j)
    role-taken Draft j h =
        put-ok Small (Reads m) (with_role g) (role_concluded j)
        (concluded-ok Small Small (refused refusal.Role) (λ n. n) j refl (λ n e. e) h)
        (with-role g m f)
    role-taken Published broken h = with-fault (with_role g 0) m (with-role g m f 0 (omega arith)) 1 1 (omega arith) (omega arith)
    role-taken Published unfit h = with-fault (with_role g 0) m (with-role g m f 0 (omega arith)) 0 1 (omega arith) (omega arith)
    role-taken Published (good n) h = with-role g m f n h

    list-taken : (p : ListParameter) → list_parameter_part.Fit p → Reads m (list_gathered g p)
    list-taken p h =
        let kept = with-unsupported g m f p h in
        by-report (Reads m) p.disposition kept (with-fault (with_unsupported g p) m kept 1 8 (omega arith) (omega arith))

    taken : (n : ℕ) (x : View) → ViewOk x → ReadOk (Reads m) (request_taking v g n x)
    unfolding request_taking
    taken n x h =
        by_cond (ReadOk (Reads m)) (eqb n 1) (λ _. role-taken v (role_judged x) (role-judged x))
        (λ _. by_cond (ReadOk (Reads m)) (eqb n 5)
        (λ _. put-ok octets_parameter_part.Fit (Reads m) (with_network g)
        (by_version_of v (no_octets_parameter Discarded) (octets_read 0 x))
        (following-ok octets_parameter_part.Fit v (no_octets_parameter Discarded) (octets_read 0 x) (no-octets-fit Discarded)
        (octets-read 0 x h))
        (λ p e. ((f.0.0, (e, f.0.1.1)), f.1)))
        (λ _. list-taken (unsupported_taken x) (unsupported-taken x h)))

  passed_over : (g : RequestState) (m : ℕ) → Reads (suc m) g → Reads m (request_passing g)
  passed_over g m f = ((f.0.0, (f.0.1.0, (f.0.1.1.0, (f.0.1.1.1.0, omega (arith, f.1))))), omega (arith, f.1))

  by-standing : (s : LabelStatus) (g : RequestState) (n m : ℕ) (x : View) → ViewOk x → Reads (suc m) g
      → ReadOk (Reads m) (known_read (request_form v) s g n x)
  by-standing Unknown g n m x h f = passed_over g m f
  by-standing First g n m x h f = taken g m (f.0, omega (arith, f.1)) n x h
  by-standing Repeated g n m x h f = refl

  -- ---- the request
  empty-fits : RequestFits empty_request
  empty-fits = (omega arith, (no-octets-fit Absent, (no-list-fits Absent, (no-faults-fit, omega arith))))

  settled-ok : (g : RequestState) → GatheredFits g → ReadOk RequestFits (settled v g)
  settled-ok g f = by_cond (ReadOk RequestFits) (owing v g.request.role g.request.network.disposition) (λ _. refl) (λ _. f)

  answer_ok : (r : Reading JoinRequest) → ReadOk RequestFits r → RequestFits (request_answer r).request
  answer_ok (refused k) h = empty-fits
  answer_ok (read q) h = h

  pub request-fits : (strict : Bool) (p : List ℕ) → AllBytes p → RequestFits (read_request_by v (head_by strict) p).request
  request-fits strict p b =
      answer_ok (bind (payload_read_by (request_form v) (head_by strict) empty_request_state p) (settled v))
      (onward-ok GatheredFits RequestFits (payload_read_by (request_form v) (head_by strict) empty_request_state p) (settled v)
      (payload-read (request_form v) GatheredFits (λ (g : RequestState). g.request.unknown) passed_over
      (λ g n m x h f. by-standing (request_label_status v g n) g n m x h f)
      empty_request_state (λ m w. (empty-fits, omega (arith, w))) strict p b)
      settled-ok)
