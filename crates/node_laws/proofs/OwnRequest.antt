-- A valid node has a role, a network identifier and reports within their limits, and together they have at most 38 bytes.
use Rattle.std.specs.Prelude.{Ok, Err}
use Prim.Native.Nat.{ℕ, ◌+◌, ◌≤◌}
use mathlib.Core.Path.{◌≡◌, refl, ap}
use mathlib.Core.Bool.{Bool, true, false, cond, not}
use mathlib.Core.List.{List, [], ◌∷◌, ◌++◌}
use native.Mathlib.Omega.{arith}
use lib.Dec.{leb, eqb}
use lib.ListN.{length, take, length-append, length-take}
use borrow.Author.Tests.{le-leb, leb-true, eqb-true}
use Rattle.refusal.specs.Order.{refused_if, in_order}
use Rattle.lemmas.specs.logic.Tests.{both_left, both, first, third, fourth}
use Rattle.link_key.specs.set.Lists.{all_of}
use Rattle.refusal.specs.declared.Refusal.TheVariants.{Owed, Room}
use Rattle.byte_io.specs.Write.{refuse, emit, answer}
use Rattle.cbor.specs.Encode.{encode, encode_pairs, shortest}
use Rattle.cbor.specs.HeadLaws.{HeadLaws}
use Rattle.cbor.specs.Item.{Item, Pairs, unsigned, bytes, array, map_item, empty, count_pairs}
use Rattle.cojp.specs.ErrorReports.{error_report_list, error_reports_valid, valid_error_report, valid_error_reports}
use Rattle.cojp.specs.Lists.{error_reports_in, at_least_one, bytes_in, items_in, kept, no_list_parameter}
use Rattle.cojp.specs.Octets as octets
use Rattle.cojp.specs.Reading.{if_taken}
use Rattle.cojp.specs.Request.{owing}
use Rattle.protocol_version.specs.Version.{by_version}
use Rattle.cojp.specs.Writing.{join, labelled, role_pairs, octets_pairs, list_pairs, request_pairs}
use Rattle.cojp.specs.Writing.{octets_in_range, list_in_range, missing, request_in_range, request_plan}
use Rattle.cojp.specs.WritingLemmas.{join-count, join-length}
use Rattle.cojp.specs.declared.error_report.ErrorReports.{ErrorReports}
use Rattle.cojp.specs.declared.list.ListParameter.{ListParameter}
use Rattle.cojp.specs.declared.octets.OctetsParameter.{OctetsParameter}
use Rattle.cojp.specs.declared.request.JoinRequest.{JoinRequest}
use Rattle.cojp.specs.declared.disposition.Disposition.{Disposition}
use Rattle.cojp.specs.declared.disposition.Disposition.TheVariants.{Absent, Taken, Discarded}
use Rattle.protocol_version.specs.declared.Version.{Version}
use Rattle.protocol_version.specs.declared.Version.TheVariants.{Draft, Published}
use Rattle.cojp_list.specs.Laws.{ListLaws}
use Rattle.cojp_list.specs.Listed.{listing, listed_in}
use Rattle.node_parameters.specs.Octets.{valid_octets, valid_jrc, identifier_in}
use Rattle.node_parameters.specs.declared.octets.HeldOctets.{HeldOctets}
use Rattle.node.specs.Node.{valid_role}
use Rattle.node.specs.Range.{version_valid, Valid}
use Rattle.node.specs.Timing.{request_of}
use Rattle.node.specs.declared.node.Node.{Node}
use Rattle.node_laws.specs.Answers.{written_number}
use Rattle.node_laws.proofs.Valid.{others-valid}

-- at most one pair, of so many bytes
Short : ℕ → Pairs → Type 0
Short n ps = (count_pairs ps ≤ 1) × (length (encode_pairs ps) ≤ n)

module _ (H : HeadLaws) where
  one-pair : (n : ℕ) (v : Item) (k : ℕ) → n ≤ 23 → length (encode v) ≤ k → Short (1 + k) (labelled n v)
  unfolding Short
  one-pair n v k s h =
      (omega arith, omega (arith, H.short-head 0 n s, length-append (shortest 0 n) (encode v ++ []), length-append (encode v) []))

  no-pair : (k : ℕ) → Short k empty
  unfolding Short
  no-pair k = (omega arith, omega arith)

  role-short : (role : ℕ) → leb role 1 ≡ true → Short 2 (role_pairs role)
  role-short role h = go (eqb role 0)
    where
      go : (b : Bool) → Short 2 (cond b empty (labelled 1 (unsigned role)))
      go true = no-pair 2
      go false = one-pair 1 (unsigned role) 1 (omega arith)
          (omega (arith, leb-true role 1 h, H.short-head 0 role (omega (arith, leb-true role 1 h))))

  octets-short : (p : OctetsParameter) → octets_in_range p ≡ true → Short 18 (octets_pairs 5 p)
  octets-short p = go p.disposition
    where
      go : (r : Disposition) → if_taken r (leb p.value.len 16) true ≡ true
          → Short 18 (if_taken r (labelled 5 (bytes (octets.bytes_in p.value))) empty)
      go Absent h = no-pair 18
      go Discarded h = no-pair 18
      go Taken h =
          let s : List ℕ = octets.bytes_in p.value in
          let few : length s ≤ 16 = omega (arith, length-take p.value.len p.value.bytes, leb-true p.value.len 16 h) in
          one-pair 5 (bytes s) 17 (omega arith)
          (omega (arith, few, H.short-head 2 (length s) (omega (arith, few)), length-append (shortest 2 (length s)) s))

  list-short :
      ListLaws → (p : ListParameter) → list_in_range (at_least_one error_reports_in) p ≡ true → p.value.count ≤ 15 →
      p.value.len ≤ 15 → Short 17 (list_pairs 8 (at_least_one error_reports_in) p)
  list-short L p = go p.disposition
    where
      go : (r : Disposition) → if_taken r (kept (at_least_one error_reports_in) p.value) true ≡ true
          → p.value.count ≤ 15 → p.value.len ≤ 15
          → Short 17 (if_taken r (labelled 8 (array (items_in (at_least_one error_reports_in) p.value))) empty)
      go Absent h m l = no-pair 17
      go Discarded h m l = no-pair 17
      go Taken h m l =
          let e = L.unsupported-written p.value h in
          let s : List ℕ = bytes_in p.value in
          let n : ℕ = p.value.count in
          one-pair 8 (array (items_in (at_least_one error_reports_in) p.value)) 16 (omega arith)
          (omega (
            arith,
            ap length e,
            H.short-head 4 n (omega (arith, m)),
            length-append (shortest 4 n) s,
            length-take p.value.len p.value.bytes,
            l,
          ))

-- ---- the node's request
identifier-in-range : (h : HeldOctets) → valid_octets h ≡ true → octets_in_range (identifier_in h) ≡ true
identifier-in-range h = go h.held
  where
    go : (b : Bool) → cond b (leb h.value.len 16) true ≡ true
        → octets_in_range (cond b (octets.octets_parameter Taken h.value) (octets.no_octets_parameter Absent)) ≡ true
    go true e = e
    go false e = refl

no-reports : (f : ErrorReports) → eqb f.count 0 ≡ true → listed_in f ≡ no_list_parameter Absent
unfolding listed_in
no-reports f e = ap (λ (n : ℕ). listing (take n f.reports)) (eqb-true f.count 0 e)

module _ (L : ListLaws) (f : ErrorReports) where
  reports-in-range : (v : Version) → error_reports_valid v f ≡ true
      → by_version v (missing (listed_in f).disposition) (list_in_range (at_least_one error_reports_in) (listed_in f)) ≡ true
  unfolding error_reports_valid
  reports-in-range Draft h = rw (no-reports f h)
  reports-in-range Published h = L.listed-in-range f h

  -- at most five of three members and bytes
  abbrev Limits : Type 0
  Limits =
      (list_in_range (at_least_one error_reports_in) (listed_in f) ≡ true) × ((listed_in f).value.count ≤ 15)
      × ((listed_in f).value.len ≤ 15)

  list-limits : (v : Version) → error_reports_valid v f ≡ true → Limits
  unfolding error_reports_valid valid_error_reports
  list-limits Draft h = (rw (no-reports f h), rw (no-reports f h) (omega arith), rw (no-reports f h) (omega arith))
  list-limits Published h =
      let few = leb-true f.count 5 (both_left (leb f.count 5) (all_of valid_error_report (error_report_list f)) h) in
      let most : length (error_report_list f) ≤ 5 = omega (arith, few, length-take f.count f.reports) in
      (L.listed-in-range f h, omega (arith, most, L.listed-members f), omega (arith, most, L.listed-long f h))

module _ (H : HeadLaws) (L : ListLaws) (n : Node) (v : Valid n) where
  abbrev q : JoinRequest
  q = request_of n

  role-valid : valid_role n.role ≡ true
  role-valid = first (valid_role n.role) (valid_jrc n.jrc) (valid_octets n.network) (version_valid n) (others-valid n v)

  network-valid : valid_octets n.network ≡ true
  network-valid = third (valid_role n.role) (valid_jrc n.jrc) (valid_octets n.network) (version_valid n) (others-valid n v)

  faults-fit : error_reports_valid n.version n.errors ≡ true
  unfolding version_valid
  faults-fit =
      both_left _ _ (fourth (valid_role n.role) (valid_jrc n.jrc) (valid_octets n.network) (version_valid n) (others-valid n v))

  in-range : request_in_range n.version q ≡ true
  unfolding request_in_range request_of
  in-range =
      both _ _ (both _ _ role-valid (identifier-in-range n.network network-valid))
      (reports-in-range L n.errors n.version faults-fit)

  pub short : length (encode (map_item (request_pairs q))) ≤ 38
  unfolding request_of Short
  short =
      let a : Pairs = role_pairs n.role in
      let b : Pairs = octets_pairs 5 (identifier_in n.network) in
      let c : Pairs = list_pairs 8 (at_least_one error_reports_in) (listed_in n.errors) in
      let l = list-limits L n.errors n.version faults-fit in
      let x = role-short H n.role role-valid in
      let y = octets-short H (identifier_in n.network) (identifier-in-range n.network network-valid) in
      let z = list-short H L (listed_in n.errors) l.0 l.1 l.2 in
      let few : count_pairs (request_pairs q) ≤ 23 = omega (arith, join-count (join a b) c, join-count a b, x.0, y.0, z.0) in
      omega (
        arith,
        H.short-head 5 (count_pairs (request_pairs q)) few,
        length-append (shortest 5 (count_pairs (request_pairs q))) (encode_pairs (request_pairs q)),
        join-length (join a b) c,
        join-length a b,
        x.1,
        y.1,
        z.1,
      )

  abbrev payload : List ℕ
  payload = encode (map_item (request_pairs q))

  pub request-number : (d : List ℕ) →
      written_number (answer (request_plan n.version q) d)
      ≡ in_order
      (refused_if (owing n.version n.role (identifier_in n.network).disposition) 9
      ∷ refused_if (not (leb (length (encode (map_item (request_pairs q)))) (length d))) 12
      ∷ [])
  unfolding request_plan request_of
  request-number d =
      rw (in-range, le-leb (length payload) 256 (omega (arith, short)))
      (owed-first (owing n.version n.role (identifier_in n.network).disposition))
    where
      room : (b : Bool)
          → written_number (cond b (Ok (length payload)) (Err Room)) ≡ in_order (0 ∷ refused_if (not b) 12 ∷ [])
      room true = refl
      room false = refl

      owed-first : (b : Bool) →
          written_number (answer (cond b (refuse Owed) (emit payload)) d)
          ≡ in_order (refused_if b 9 ∷ refused_if (not (leb (length payload) (length d))) 12 ∷ [])
      owed-first true = refl
      owed-first false = room (leb (length payload) (length d))
