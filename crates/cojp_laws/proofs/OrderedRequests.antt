-- A join request: role, network identifier and list of reports tell which labels were seen, and role and identifier are what the pairs say.
use Prim.Native.Nat.{ℕ}
use mathlib.Core.Path.{◌≡◌, refl, ap, sym, ◌∙◌, subst}
use mathlib.Core.Bool.{Bool, true, false, cond, not, ◌&&◌}
use mathlib.Core.List.{List, [], ◌∷◌, ◌++◌}
use mathlib.Core.Option.{some}
use lib.Dec.{eqb}
use borrow.Author.Tests.{eqb-true, not-true}
use Rattle.refusal.specs.Order.{refused_if, in_order}
use Rattle.refusal.specs.RefusalLemmas.{refused-first}
use Rattle.refusal.specs.Verdict.{verdict_number}
use Rattle.refusal.specs.declared.Refusal.TheVariants as refusal
use Rattle.cbor.specs.Item.{Item, Pairs, empty, pair}
use Rattle.cbor.specs.Strict.{head_by}
use Rattle.cbor.specs.View.{label_of, view_of}
use Rattle.cbor.specs.declared.value.Label.{Label}
use Rattle.cbor.specs.declared.value.Label.TheVariants as label
use Rattle.lemmas.specs.logic.Tests.{never, neither_left, neither_right}
use Rattle.cojp.specs.DispositionLemmas.{by-disposition}
use Rattle.cojp.specs.Lists.{error_reports_in, at_least_one, in_array, fitting, list_answer}
use Rattle.cojp.specs.Lists.{list_parameter, no_list_parameter, list_taken, unsupported_taken}
use Rattle.cojp.specs.Octets.{octets_judged, no_octets_parameter, octets_parameter}
use Rattle.cojp.specs.Reading.{Reading, refused, read, bind, map_reading, Judgement, broken, unfit, good, concluded, by_version_of}
use Rattle.cojp.specs.Reading.{if_taken}
use Rattle.cojp.specs.Request.{empty_request_state, role_judged, role_label_status, request_label_status, request_passing, with_role}
use Rattle.cojp.specs.Request.{with_network}
use Rattle.cojp.specs.Request.{with_unsupported, with_error, role_gathered, list_gathered, request_taking, request_form}
use Rattle.cojp.specs.Request.{owing, settled, request_answer}
use Rattle.cojp.specs.Walk.{label_status_of, payload_read_by}
use Rattle.cojp.specs.declared.disposition.Disposition.{Disposition}
use Rattle.cojp.specs.declared.disposition.Disposition.TheVariants.{Absent, Taken, Discarded}
use Rattle.cojp.specs.declared.list.ListParameter.{ListParameter}
use Rattle.cojp.specs.declared.list.ListRead.{ListRead}
use Rattle.cojp.specs.declared.octets.Octets.{Octets}
use Rattle.cojp.specs.declared.octets.OctetsParameter.{OctetsParameter}
use Rattle.cojp.specs.declared.request.RequestState.{RequestState}
use Rattle.cojp.specs.declared.walk.LabelStatus.TheVariants.{First, Repeated}
use Rattle.protocol_version.specs.Version.{by_version}
use Rattle.protocol_version.specs.declared.Version.{Version}
use Rattle.protocol_version.specs.declared.Version.TheVariants.{Draft, Published}
use Rattle.cojp_laws.specs.ReadingOrder.{scanned, pairs_of, is_among, payload_numbers, kind_number, content_number, request_tests}
use Rattle.cojp_laws.specs.ReadingOrder.{is_label, value_of, good_role, role_by, is_good, is_identifier, is_owed, request_number}
use Rattle.cojp_laws.proofs.InOrder.{in-order-append, Numbered, stood, standing, is_passed, Ended, payload-numbered}

abbrev is_taken : Disposition → Bool
is_taken r = if_taken r true false

-- ---- values by label
later-value : (n : ℕ) (k v : Item) (ps : Pairs) → is_label n (label_of k) ≡ false → value_of n (pair k v ps) ≡ value_of n ps
later-value n k v ps e = ap (λ (b : Bool). cond b (some (view_of v)) (value_of n ps)) e

first-value : (n : ℕ) (k v : Item) (ps : Pairs) → is_label n (label_of k) ≡ true → value_of n (pair k v ps) ≡ some (view_of v)
first-value n k v ps e = ap (λ (b : Bool). cond b (some (view_of v)) (value_of n ps)) e

-- ---- which labels were seen: ps are the pairs still to come, whole all of them
module _ (version : Version) (whole : Pairs) where
  record Asked (seen : List ℕ) (ps : Pairs) (g : RequestState) : Type 0 where
    named : role_label_status g.named ≡ stood (is_among 1 seen)
    network : label_status_of g.request.network.disposition ≡ stood (is_among 5 seen)
    unsupported : label_status_of g.request.unsupported.disposition ≡ stood (by_version version false (is_among 8 seen))
    role-later : is_among 1 seen ≡ false → (value_of 1 ps ≡ value_of 1 whole) × (g.request.role ≡ 0)
    role-now : is_among 1 seen ≡ true → g.request.role ≡ role_by (value_of 1 whole)
    id-later : is_among 5 seen ≡ false → value_of 5 ps ≡ value_of 5 whole
    id-now : is_among 5 seen ≡ true → is_taken g.request.network.disposition ≡ is_identifier (value_of 5 whole)

  none-asked : Asked [] whole empty_request_state
  none-asked = record {
    named = refl;
    network = refl;
    unsupported = unsupported-none version;
    role-later = λ e. (refl, refl);
    role-now = λ e. never false e refl;
    id-later = λ e. refl;
    id-now = λ e. never false e refl;
  }
    where
      unsupported-none : (v : Version) → First ≡ stood (by_version v false false)
      unsupported-none Draft = refl
      unsupported-none Published = refl

  -- a label that is passed over is neither 1 nor 5
  passed-others : (l : Label) → is_passed (request_tests version) l ≡ true → (is_label 1 l ≡ false) × (is_label 5 l ≡ false)
  passed-others label.NoInteger e = never false e refl
  passed-others label.Negative e = (refl, refl)
  passed-others (label.Number n) e = by version (not-true ((request_tests version).known n) e)
    where
      by : (v : Version) → (request_tests v).known n ≡ false → (eqb n 1 ≡ false) × (eqb n 5 ≡ false)
      by Draft f =
          (neither_left (eqb n 1) (is_among n (5 ∷ [])) f, neither_left (eqb n 5) false (neither_right (eqb n 1) (is_among n (5 ∷ [])) f))
      by Published f = (
        neither_left (eqb n 1) (is_among n (5 ∷ 8 ∷ [])) f,
        neither_left (eqb n 5) (is_among n (8 ∷ [])) (neither_right (eqb n 1) (is_among n (5 ∷ 8 ∷ [])) f),
      )

  skips : (seen : List ℕ) (k v : Item) (ps : Pairs) (g : RequestState) → Asked seen (pair k v ps) g →
      is_passed (request_tests version) (label_of k) ≡ true → Asked seen ps (request_passing g)
  skips seen k v ps g h e =
      let others = passed-others (label_of k) e in
      record {
        named = h.named;
        network = h.network;
        unsupported = h.unsupported;
        role-later = λ f. (sym (later-value 1 k v ps others.0) ∙ (h.role-later f).0, (h.role-later f).1);
        role-now = h.role-now;
        id-later = λ f. sym (later-value 5 k v ps others.1) ∙ h.id-later f;
        id-now = h.id-now;
      }

  stands : (seen : List ℕ) (ps : Pairs) (g : RequestState) → Asked seen ps g → (n : ℕ) →
      request_label_status version g n ≡ standing ((request_tests version).known n) (is_among n seen)
  unfolding request_label_status
  stands seen ps g h n = by_one (eqb n 1) refl
    where
      others : eqb n 1 ≡ false → eqb n 5 ≡ false → (v : Version) → v ≡ version → (b : Bool) → eqb n 8 ≡ b →
          request_label_status v g n ≡ standing ((request_tests v).known n) (is_among n seen)
      others e f Draft q b i = rw (e, f)
      others e f Published q true i =
          let eight = eqb-true n 8 i in
          rw (e, f, i) (subst (λ (m : ℕ). label_status_of g.request.unsupported.disposition ≡ stood (is_among m seen)) (sym eight)
          (subst (λ (v : Version). label_status_of g.request.unsupported.disposition ≡ stood (by_version v false (is_among 8 seen)))
          (sym q) h.unsupported))
      others e f Published q false i = rw (e, f, i)

      known-one : (v : Version) → request_label_status v g 1 ≡ standing ((request_tests v).known 1) (is_among 1 seen)
      known-one Draft = h.named
      known-one Published = h.named

      known-five : (v : Version) → request_label_status v g 5 ≡ standing ((request_tests v).known 5) (is_among 5 seen)
      known-five Draft = h.network
      known-five Published = h.network

      by-five : eqb n 1 ≡ false → (b : Bool) → eqb n 5 ≡ b →
          request_label_status version g n ≡ standing ((request_tests version).known n) (is_among n seen)
      by-five e true f =
          subst (λ (m : ℕ). request_label_status version g m ≡ standing ((request_tests version).known m) (is_among m seen))
          (sym (eqb-true n 5 f)) (known-five version)
      by-five e false f = others e f version refl (eqb n 8) refl

      by_one : (b : Bool) → eqb n 1 ≡ b → request_label_status version g n ≡ standing ((request_tests version).known n) (is_among n seen)
      by_one true e =
          subst (λ (m : ℕ). request_label_status version g m ≡ standing ((request_tests version).known m) (is_among m seen))
          (sym (eqb-true n 1 e)) (known-one version)
      by_one false e = by-five e (eqb n 5) refl

  module _ (seen : List ℕ) (k v : Item) (ps : Pairs) (g : RequestState) (h : Asked seen (pair k v ps) g) where
    -- ---- role
    role-asked : label_of k ≡ label.Number 1 → is_among 1 seen ≡ false → (r : ℕ) → r ≡ good_role (role_judged (view_of v)) →
        Asked (1 ∷ seen) ps (with_role g r)
    role-asked q fresh r e =
        let value = sym (first-value 1 k v ps (ap (is_label 1) q)) ∙ (h.role-later fresh).0 in
        record {
          named = refl;
          network = h.network;
          unsupported = h.unsupported;
          role-later = λ f. never true refl f;
          role-now = λ f. e ∙ ap role_by value;
          id-later = λ f. sym (later-value 5 k v ps (ap (is_label 5) q)) ∙ h.id-later f;
          id-now = h.id-now;
        }

    error-asked : (seen' : List ℕ) (s : RequestState) (code l : ℕ) → Asked seen' ps s → Asked seen' ps (with_error s code l)
    error-asked seen' s code l a = record {
      named = a.named;
      network = a.network;
      unsupported = a.unsupported;
      role-later = a.role-later;
      role-now = a.role-now;
      id-later = a.id-later;
      id-now = a.id-now;
    }

    take-role : label_of k ≡ label.Number 1 → is_among 1 seen ≡ false →
        Numbered
        (in_order
        (by_version version (kind_number (role_judged (view_of v))) 0
        ∷ by_version version (content_number 8 (role_judged (view_of v))) 0
        ∷ []))
        (Asked (1 ∷ seen) ps) (role_gathered version g (role_judged (view_of v)))
    take-role q fresh = by version (role_judged (view_of v)) refl
      where
        by : (w : Version) (j : Judgement ℕ) → role_judged (view_of v) ≡ j →
            Numbered (in_order (by_version w (kind_number j) 0 ∷ by_version w (content_number 8 j) 0 ∷ [])) (Asked (1 ∷ seen) ps)
            (role_gathered w g j)
        by Draft broken e = refl
        by Draft unfit e = refl
        by Draft (good r) e = (refl, role-asked q fresh r (sym (ap good_role e)))
        by Published broken e =
            (refl, error-asked (1 ∷ seen) (with_role g 0) 1 1 (role-asked q fresh 0 (sym (ap good_role e))))
        by Published unfit e =
            (refl, error-asked (1 ∷ seen) (with_role g 0) 0 1 (role-asked q fresh 0 (sym (ap good_role e))))
        by Published (good r) e = (refl, role-asked q fresh r (sym (ap good_role e)))

    -- ---- network identifier
    network-asked : label_of k ≡ label.Number 5 → is_among 5 seen ≡ false → (p : OctetsParameter) →
        label_status_of p.disposition ≡ Repeated → is_taken p.disposition ≡ is_good (octets_judged 0 (view_of v)) →
        Asked (5 ∷ seen) ps (with_network g p)
    network-asked q fresh p met e =
        let value = sym (first-value 5 k v ps (ap (is_label 5) q)) ∙ h.id-later fresh in
        record {
          named = h.named;
          network = met;
          unsupported = h.unsupported;
          role-later = λ f. (sym (later-value 1 k v ps (ap (is_label 1) q)) ∙ (h.role-later f).0, (h.role-later f).1);
          role-now = h.role-now;
          id-later = λ f. never true refl f;
          id-now = λ f. e ∙ ap is_identifier value;
        }

    take-network : label_of k ≡ label.Number 5 → is_among 5 seen ≡ false →
        Numbered (in_order (by_version version (kind_number (octets_judged 0 (view_of v))) 0 ∷ by_version version 0 0 ∷ []))
        (Asked (5 ∷ seen) ps)
        (map_reading (with_network g)
        (by_version_of version (no_octets_parameter Discarded)
        (concluded (read (no_octets_parameter Discarded)) (octets_parameter Taken) (octets_judged 0 (view_of v)))))
    take-network q fresh = by version (octets_judged 0 (view_of v)) refl
      where
        bad : is_good (octets_judged 0 (view_of v)) ≡ false → Asked (5 ∷ seen) ps (with_network g (no_octets_parameter Discarded))
        bad e = network-asked q fresh (no_octets_parameter Discarded) refl (sym e)

        by : (w : Version) (j : Judgement Octets) → octets_judged 0 (view_of v) ≡ j →
            Numbered (in_order (by_version w (kind_number j) 0 ∷ by_version w 0 0 ∷ [])) (Asked (5 ∷ seen) ps)
            (map_reading (with_network g)
            (by_version_of w (no_octets_parameter Discarded) (concluded (read (no_octets_parameter Discarded)) (octets_parameter Taken) j)))
        by Draft broken e = refl
        by Draft unfit e = (refl, bad (ap is_good e))
        by Draft (good o) e = (refl, network-asked q fresh (octets_parameter Taken o) refl (sym (ap is_good e)))
        by Published broken e = (refl, bad (ap is_good e))
        by Published unfit e = (refl, bad (ap is_good e))
        by Published (good o) e = (refl, network-asked q fresh (octets_parameter Taken o) refl (sym (ap is_good e)))

    -- ---- list of reports
    list-asked : version ≡ Published → label_of k ≡ label.Number 8 → (p : ListParameter) → label_status_of p.disposition ≡ Repeated →
        Asked (8 ∷ seen) ps (with_unsupported g p)
    list-asked w q p met = record {
      named = h.named;
      network = h.network;
      unsupported = rw w met;
      role-later = λ f. (sym (later-value 1 k v ps (ap (is_label 1) q)) ∙ (h.role-later f).0, (h.role-later f).1);
      role-now = h.role-now;
      id-later = λ f. sym (later-value 5 k v ps (ap (is_label 5) q)) ∙ h.id-later f;
      id-now = h.id-now;
    }

    list-met : (r : ListRead) → label_status_of (list_taken r).disposition ≡ Repeated
    list-met r = by r.good
      where
        by : (b : Bool) → label_status_of (cond b (list_parameter Taken r.value) (no_list_parameter Discarded)).disposition ≡ Repeated
        by true = refl
        by false = refl

    take-list : version ≡ Published → label_of k ≡ label.Number 8 → Asked (8 ∷ seen) ps (list_gathered g (unsupported_taken (view_of v)))
    take-list w q =
        let p = unsupported_taken (view_of v) in
        let a = list-asked w q p (list-met (list_answer (fitting 253 (in_array (at_least_one error_reports_in) (view_of v))))) in
        by-disposition (Asked (8 ∷ seen) ps) p.disposition a (error-asked (8 ∷ seen) (with_unsupported g p) 1 8 a)

  abbrev Taking : List ℕ → Item → Item → Pairs → RequestState → ℕ → Type 0
  Taking seen k v ps g m =
      label_of k ≡ label.Number m → is_among m seen ≡ false →
      Numbered (in_order ((request_tests version).kind m (view_of v) ∷ (request_tests version).content m (view_of v) ∷ []))
      (Asked (m ∷ seen) ps) (request_taking version g m (view_of v))

  takes : (seen : List ℕ) (k v : Item) (ps : Pairs) (g : RequestState) → Asked seen (pair k v ps) g → (n : ℕ) →
      label_of k ≡ label.Number n →
      (request_tests version).known n ≡ true → is_among n seen ≡ false →
      Numbered (in_order ((request_tests version).kind n (view_of v) ∷ (request_tests version).content n (view_of v) ∷ []))
      (Asked (n ∷ seen) ps)
      (request_taking version g n (view_of v))
  unfolding request_taking
  takes seen k v ps g h n q known fresh = by_one (eqb n 1) refl
    where
      eighth : eqb n 1 ≡ false → eqb n 5 ≡ false → (w : Version) → version ≡ w → (request_tests w).known n ≡ true → n ≡ 8
      eighth e f Draft z t = never (is_among n (1 ∷ 5 ∷ [])) t (rw (e, f))
      eighth e f Published z t = last (eqb n 8) refl
        where
          last : (b : Bool) → eqb n 8 ≡ b → n ≡ 8
          last true i = eqb-true n 8 i
          last false i = never (is_among n (1 ∷ 5 ∷ 8 ∷ [])) t (rw (e, f, i))

      published : (w : Version) → version ≡ w → n ≡ 8 → (request_tests w).known n ≡ true → version ≡ Published
      published Draft z m t = never (is_among 8 (1 ∷ 5 ∷ [])) (subst (λ (x : ℕ). is_among x (1 ∷ 5 ∷ []) ≡ true) m t) refl
      published Published z m t = z

      list-goal : version ≡ Published → Taking seen k v ps g 8
      list-goal w i f = (
        ap (λ (x : Version). in_order ((request_tests x).kind 8 (view_of v) ∷ (request_tests x).content 8 (view_of v) ∷ [])) w,
        take-list seen k v ps g h w i,
      )

      by-five : eqb n 1 ≡ false → (b : Bool) → eqb n 5 ≡ b → Taking seen k v ps g n
      by-five e true f = subst (Taking seen k v ps g) (sym (eqb-true n 5 f)) (take-network seen k v ps g h)
      by-five e false f =
          let m = eighth e f version refl known in
          subst (Taking seen k v ps g) (sym m) (list-goal (published version refl m known))

      by_one : (b : Bool) → eqb n 1 ≡ b →
          Numbered (in_order ((request_tests version).kind n (view_of v) ∷ (request_tests version).content n (view_of v) ∷ []))
          (Asked (n ∷ seen) ps) (request_taking version g n (view_of v))
      by_one true e = subst (Taking seen k v ps g) (sym (eqb-true n 1 e)) (take-role seen k v ps g h) q fresh
      by_one false e = by-five e (eqb n 5) refl q fresh

-- ---- OWED last
owed-is : (v : Version) (role : ℕ) (r : Disposition) (id : Bool) → is_taken r ≡ id →
    owing v role r ≡ (not id && by_version v (eqb role 0) true)
unfolding owing
owed-is v role Absent id e = ap (λ (b : Bool). (not b && by_version v (eqb role 0) true)) e
owed-is v role Taken id e = ap (λ (b : Bool). (not b && by_version v (eqb role 0) true)) e
owed-is v role Discarded id e = ap (λ (b : Bool). (not b && by_version v (eqb role 0) true)) e

module _ (version : Version) (whole : Pairs) where
  -- after the last pair, role and identifier are what the pairs say
  role-is : (seen : List ℕ) (g : RequestState) → Asked version whole seen empty g → g.request.role ≡ role_by (value_of 1 whole)
  role-is seen g h = by (is_among 1 seen) refl
    where
      by : (b : Bool) → is_among 1 seen ≡ b → g.request.role ≡ role_by (value_of 1 whole)
      by true e = h.role-now e
      by false e = let later = h.role-later e in later.1 ∙ ap role_by later.0

  taken_is : (seen : List ℕ) (g : RequestState) → Asked version whole seen empty g →
      is_taken g.request.network.disposition ≡ is_identifier (value_of 5 whole)
  taken_is seen g h = by (is_among 5 seen) refl
    where
      absent : (r : Disposition) → label_status_of r ≡ First → is_taken r ≡ false
      absent Absent e = refl
      absent Taken e = cc
      absent Discarded e = refl

      by : (b : Bool) → is_among 5 seen ≡ b → is_taken g.request.network.disposition ≡ is_identifier (value_of 5 whole)
      by true e = h.id-now e
      by false e = absent g.request.network.disposition (h.network ∙ ap stood e) ∙ ap is_identifier (h.id-later e)

  owed : (seen : List ℕ) (g : RequestState) → Asked version whole seen empty g →
      owing version g.request.role g.request.network.disposition ≡ is_owed version whole
  owed seen g h =
      owed-is version g.request.role g.request.network.disposition (is_identifier (value_of 5 whole)) (taken_is seen g h)
      ∙ ap (λ (r : ℕ). (not (is_identifier (value_of 5 whole)) && by_version version (eqb r 0) true)) (role-is seen g h)

  abbrev End : RequestState → Type 0
  End = Ended (request_form version) (request_tests version) (Asked version whole) (stands version whole) (skips version whole)
      (takes version whole)

  settled-number : (numbers : List ℕ) (r : Reading RequestState) → Numbered (in_order numbers) End r →
      verdict_number (request_answer (bind r (settled version))).verdict ≡ in_order (numbers ++ (refused_if (is_owed version whole) 9 ∷ []))
  settled-number numbers (refused k) e =
      sym (in-order-append numbers (refused_if (is_owed version whole) 9 ∷ [])
      ∙ ap (λ (n : ℕ). in_order (n ∷ refused_if (is_owed version whole) 9 ∷ [])) e
      ∙ refused-first k (refused_if (is_owed version whole) 9 ∷ []))
  settled-number numbers (read g) e =
      last (owing version g.request.role g.request.network.disposition) (is_owed version whole)
      (owed e.1.seen g e.1.holds)
      ∙ sym (in-order-append numbers (refused_if (is_owed version whole) 9 ∷ [])
      ∙ ap (λ (n : ℕ). in_order (n ∷ refused_if (is_owed version whole) 9 ∷ [])) e.0)
    where
      last : (a b : Bool) → a ≡ b →
          verdict_number (request_answer (cond a (refused refusal.Owed) (read g.request))).verdict ≡ in_order (refused_if b 9 ∷ [])
      last true b e = ap (λ (x : Bool). in_order (refused_if x 9 ∷ [])) e
      last false b e = ap (λ (x : Bool). in_order (refused_if x 9 ∷ [])) e

pub requests-in-order : (v : Version) (strict : Bool) (p : List ℕ) →
    request_number v strict p
    ≡ in_order (payload_numbers (request_tests v) strict p ++ (refused_if (is_owed v (pairs_of (scanned strict p))) 9 ∷ []))
requests-in-order v strict p =
    let whole = pairs_of (scanned strict p) in
    settled-number v whole (payload_numbers (request_tests v) strict p)
    (payload_read_by (request_form v) (head_by strict) empty_request_state p)
    (payload-numbered (request_form v) (request_tests v) (Asked v whole) (stands v whole) (skips v whole) (takes v whole)
    empty_request_state strict p (none-asked v whole))
