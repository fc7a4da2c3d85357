-- What was read is in range, and its parts take no more bytes than their values did; they are few, so the map's head is one byte.
use Rattle.std.specs.Prelude.{Ok}
use Prim.Native.Nat.{ℕ, ◌+◌, ◌≤◌}
use native.Mathlib.Omega.{arith}
use mathlib.Core.Path.{◌≡◌, refl, sym, ap, subst, ◌∙◌}
use mathlib.Core.Bool.{Bool, true, false, cond}
use mathlib.Core.List.{List}
use lib.Dec.{eqb}
use lib.ListN.{length, length-append}
use borrow.Author.Tests.{le-leb}
use Rattle.refusal.specs.RefusalLemmas.{refused-not}
use Rattle.refusal.specs.declared.Refusal.TheVariants as refusal
use Rattle.byte_io.specs.BigEndian.{digits, bytes_of}
use Rattle.cbor.specs.Decode.{payload_by, decode_by, heading, argument, next, members, pairs, major_of}
use Rattle.cbor.specs.Encode.{encode, encode_pairs, shortest, info_of, extra_of}
use Rattle.cbor.specs.HeadLaws.{HeadLaws}
use Rattle.cbor.specs.Item.{Item, Pairs, unsigned, array, bytes, map_item, more, empty, count_pairs}
use Rattle.cbor.specs.Laws.{Bytes, ItemLaws}
use Rattle.cbor.specs.Strict.{head_by}
use Rattle.cbor.specs.View.{Scalar}
use Rattle.cojp.proofs.Walks.{Gives}
use Rattle.cojp.specs.Configuration.{empty_configuration, configuration_form, configuration_answer}
use Rattle.cojp.specs.Configuration.{refuse_configuration, read_configuration_by, read_configuration_as}
use Rattle.cojp.specs.InRange.{InRange, ReadsInRange}
use Rattle.cojp.specs.Laws.{StrictReaders, meets_longer}
use Rattle.cojp.specs.Lists.{Picked, error_reports_in, at_least_one, strings_in, items_in}
use Rattle.cojp.specs.Octets.{bytes_in, padded, octets_judged}
use Rattle.cojp.specs.Reading.{Reading, refused, read, if_taken}
use Rattle.cojp.specs.Request.{request_label_status, request_taking, owing, read_request_by}
use Rattle.cojp.specs.Walk.{payload_read_by}
use Rattle.cojp.specs.Writing.{join, labelled, lease_items, groups_items, role_pairs, octets_pairs}
use Rattle.cojp.specs.Writing.{address_pairs, keys_pairs, list_pairs, rate_pairs, request_pairs, request_plan}
use Rattle.cojp.specs.Writing.{request_in_range, configuration_pairs, configuration_in_range, configuration_plan}
use Rattle.cojp.specs.WritingLemmas.{join-count, join-length}
use Rattle.cojp.specs.declared.address.AddressParameter.{AddressParameter}
use Rattle.cojp.specs.declared.configuration.Configuration.{Configuration}
use Rattle.cojp.specs.declared.configuration.ConfigurationRead.{ConfigurationRead}
use Rattle.cojp.specs.declared.key_set.KeysParameter.{KeysParameter}
use Rattle.cojp.specs.declared.list.ListParameter.{ListParameter}
use Rattle.cojp.specs.declared.octets.OctetsParameter.{OctetsParameter}
use Rattle.cojp.specs.declared.rate.RateParameter.{RateParameter}
use Rattle.cojp.specs.declared.disposition.Disposition.{Disposition}
use Rattle.cojp.specs.declared.disposition.Disposition.TheVariants.{Absent, Taken, Discarded}
use Rattle.cojp.specs.declared.request.JoinRequest.{JoinRequest}
use Rattle.protocol_version.specs.declared.Version.{Version}
use Rattle.link_key.specs.set.KeySet.{keys_of}
use Rattle.cojp_rfc9031_laws.specs.WrittenBack.{WritesWithin, WrittenBack}
use Rattle.cojp_rfc9031_laws.proofs.Bounded.{Within, payload-bound}
use Rattle.cojp_rfc9031_laws.proofs.ConfigurationSizes.{parts, Sized, none-sized, wider, passing, taking}
use Rattle.cojp_rfc9031_laws.proofs.RequestLimits.{Accepts, accepts, in-range, role_bytes, network_bytes, list_bytes}

-- a parameter is one pair at most
one-most : (r : Disposition) (n : ℕ) (i : Item) → count_pairs (if_taken r (labelled n i) empty) ≤ 1
one-most Absent n i = omega arith
one-most Taken n i = omega arith
one-most Discarded n i = omega arith

keys-one : (p : KeysParameter) → count_pairs (keys_pairs p) ≤ 1
keys-one p = one-most p.disposition 2 (array (groups_items (keys_of p.value)))

address-one : (p : AddressParameter) → count_pairs (address_pairs p) ≤ 1
address-one p = one-most p.disposition 3 (array (more (bytes p.value.bytes) (lease_items p.value.leased p.value.lease)))

octets-one : (n : ℕ) (p : OctetsParameter) → count_pairs (octets_pairs n p) ≤ 1
octets-one n p = one-most p.disposition n (bytes (bytes_in p.value))

list-one : (n : ℕ) (f : List Scalar → Picked) (p : ListParameter) → count_pairs (list_pairs n f p) ≤ 1
list-one n f p = one-most p.disposition n (array (items_in f p.value))

rate-one : (p : RateParameter) → count_pairs (rate_pairs p) ≤ 1
rate-one p = one-most p.disposition 7 (unsigned p.value)

role-one : (n : ℕ) → count_pairs (role_pairs n) ≤ 1
role-one n = by (eqb n 0)
  where
    by : (b : Bool) → count_pairs (cond b empty (labelled 1 (unsigned n))) ≤ 1
    by true = omega arith
    by false = omega arith

module _ (H : HeadLaws) where
  map-size : (ps : Pairs) → count_pairs ps ≤ 23 → length (encode (map_item ps)) ≡ 1 + length (encode_pairs ps)
  map-size ps l = length-append (shortest 5 (count_pairs ps)) (encode_pairs ps) ∙ omega (arith, H.short-head 5 (count_pairs ps) l)

  request-size : (q : JoinRequest) → length (encode (map_item (request_pairs q))) ≡ 1 + (role_bytes q + network_bytes q + list_bytes q)
  request-size q =
      let r = role_pairs q.role in
      let n = octets_pairs 5 q.network in
      let u = list_pairs 8 (at_least_one error_reports_in) q.unsupported in
      map-size (request_pairs q)
      (omega (
        arith,
        join-count (join r n) u,
        join-count r n,
        role-one q.role,
        octets-one 5 q.network,
        list-one 8 (at_least_one error_reports_in) q.unsupported,
      ))
      ∙ omega (arith, join-length (join r n) u, join-length r n)

  configuration-size : (c : Configuration) → length (encode (map_item (configuration_pairs c))) ≡ 1 + parts c
  configuration-size c =
      let k = keys_pairs c.keys in
      let a = address_pairs c.address in
      let j = octets_pairs 4 c.jrc in
      let n = octets_pairs 5 c.network in
      let p = octets_pairs 6 c.prefix in
      let b = list_pairs 6 strings_in c.blacklist in
      let r = rate_pairs c.rate in
      map-size (configuration_pairs c)
      (omega (
        arith,
        join-count (join (join (join (join (join k a) j) n) p) b) r,
        join-count (join (join (join (join k a) j) n) p) b,
        join-count (join (join (join k a) j) n) p,
        join-count (join (join k a) j) n,
        join-count (join k a) j,
        join-count k a,
        keys-one c.keys,
        address-one c.address,
        octets-one 4 c.jrc,
        octets-one 5 c.network,
        octets-one 6 c.prefix,
        list-one 6 strings_in c.blacklist,
        rate-one c.rate,
      ))
      ∙ omega (
        arith,
        join-length (join (join (join (join (join k a) j) n) p) b) r,
        join-length (join (join (join (join k a) j) n) p) b,
        join-length (join (join (join k a) j) n) p,
        join-length (join (join k a) j) n,
        join-length (join k a) j,
        join-length k a,
      )

-- ---- join requests
request-writes : HeadLaws → (v : Version) (p : List ℕ) (q : JoinRequest) → Accepts v p q → WritesWithin (request_plan v q) p
unfolding request_plan
request-writes H v p q a =
    let w = encode (map_item (request_pairs q)) in
    let took : length w ≤ length p =
    rw a.is (omega (arith, request-size H a.gathered.request, a.within.holds.size, a.within.room)) in
    record {
      payload = w;
      written = rw (in-range v p q a, le-leb (length w) 256 (omega (arith, took, a.within.short)), a.owes_nothing);
      shorter = took;
    }

-- ---- configurations
configuration-in-range : (v : Version) (c : Configuration) → InRange v c → configuration_in_range v c ≡ true
unfolding configuration_in_range
configuration-in-range v c h = rw (h.keys, h.address, h.jrc, h.network, h.prefix, h.form)

module _ (laws : ItemLaws) (H : HeadLaws) where
  configuration-writes : (v : Version) (p : List ℕ) (c : Configuration) → InRange v c → Within Sized p c →
      WritesWithin (configuration_plan v c) p
  unfolding configuration_plan
  configuration-writes v p c h a =
      let w = encode (map_item (configuration_pairs c)) in
      let took : length w ≤ length p = omega (arith, configuration-size H c, a.holds.size, a.room) in
      record {
        payload = w;
        written = rw (configuration-in-range v c h, le-leb (length w) 256 (omega (arith, took, a.short)));
        shorter = took;
      }

  module _ (R : ReadsInRange) (S : StrictReaders) where
    ordinary : (v : Version) (p : List ℕ) → Bytes p → (read_configuration_as v p).verdict ≡ Ok tt →
        WritesWithin (configuration_plan v (read_configuration_as v p).configuration) p
    ordinary v p b e =
        by (payload_read_by (configuration_form v) heading empty_configuration p)
        (payload-bound (configuration_form v) Sized wider passing (taking laws H v) laws H empty_configuration none-sized p b)
        e (R v p e)
      where
        by : (r : Reading Configuration) → Gives (Within Sized p) r → (configuration_answer r).verdict ≡ Ok tt →
            InRange v (configuration_answer r).configuration → WritesWithin (configuration_plan v (configuration_answer r).configuration) p
        by (refused k) g q h = refused-not k q
        by (read c) g q h = configuration-writes v p c h g

    strict_same : (v : Version) (strict : Bool) (p : List ℕ) → (read_configuration_by v (head_by strict) p).verdict ≡ Ok tt →
        read_configuration_by v (head_by strict) p ≡ read_configuration_as v p
    strict_same v false p e = refl
    strict_same v true p e =
        S.configuration v p ∙ by (meets_longer p) (ap (λ (r : ConfigurationRead). r.verdict) (sym (S.configuration v p)) ∙ e)
      where
        by : (b : Bool) → (cond b (refuse_configuration refusal.Loose) (read_configuration_as v p)).verdict ≡ Ok tt →
            cond b (refuse_configuration refusal.Loose) (read_configuration_as v p) ≡ read_configuration_as v p
        by true q = refused-not refusal.Loose q
        by false q = refl

    either : (v : Version) (strict : Bool) (p : List ℕ) → Bytes p → (read_configuration_by v (head_by strict) p).verdict ≡ Ok tt →
        WritesWithin (configuration_plan v (read_configuration_by v (head_by strict) p).configuration) p
    either v strict p b e =
        let same = strict_same v strict p e in
        subst (λ (r : ConfigurationRead). WritesWithin (configuration_plan v r.configuration) p) (sym same)
        (ordinary v p b (ap (λ (r : ConfigurationRead). r.verdict) (sym same) ∙ e))

    pub written_back : WrittenBack
    unfolding payload_by info_of decode_by heading argument next digits members pairs major_of padded octets_judged payload_read_by
        request_label_status
        request_taking owing request_plan request_in_range shortest extra_of bytes_of
    written_back = record {
      request = λ v strict p b e. request-writes H v p (read_request_by v (head_by strict) p).request (accepts laws H S v strict p b e);
      configuration = either;
      example = refl;
    }
