-- A label that is not known adds one to the count, and what is taken of a known one leaves it: by induction on the pairs.
use Rattle.std.specs.Prelude.{Ok}
use Prim.Native.Nat.{ℕ, ◌+◌}
use native.Mathlib.Omega.{arith}
use mathlib.Core.Path.{◌≡◌, refl, subst}
use mathlib.Core.Bool.{Bool, true, false, cond}
use mathlib.Core.List.{List}
use lib.Dec.{eqb, ltb}
use lib.ListN.{length}
use Rattle.refusal.specs.RefusalLemmas.{refused-not}
use Rattle.refusal.specs.declared.Refusal.TheVariants as refusal
use Rattle.byte_io.specs.BigEndian.{digits}
use Rattle.cbor.specs.Decode.{Outcome, payload_by, decode_by, heading, argument, next, members, pairs, major_of}
use Rattle.cbor.specs.Encode.{info_of}
use Rattle.cbor.specs.Decode as decode
use Rattle.cbor.specs.Item.{Item, Pairs, unsigned, negative, bytes, text, array, map_item, tag, simple, float, empty, pair}
use Rattle.cbor.specs.Strict.{head_by}
use Rattle.cbor.specs.View.{View, label_of, view_of}
use Rattle.cbor.specs.declared.value.Label.{Label}
use Rattle.cbor.specs.declared.value.Label.TheVariants as label
use Rattle.cojp.specs.Address.{no_address_parameter, address_read}
use Rattle.cojp.specs.Configuration.{empty_configuration, with_keys, with_address, with_jrc}
use Rattle.cojp.specs.Configuration.{with_network, with_prefix, label_status_for, noted, taking_for}
use Rattle.cojp.specs.Configuration.{configuration_taking, configuration_form, configuration_answer}
use Rattle.cojp.specs.ErrorReports.{added}
use Rattle.cojp.specs.KeySet.{no_keys_parameter, keys_read_as}
use Rattle.cojp.specs.Lists.{unsupported_taken}
use Rattle.cojp.specs.Octets.{no_octets_parameter, octets_judged, octets_read, padded}
use Rattle.cojp.specs.Parameter.{parameter_of, later_parameter}
use Rattle.cojp.specs.Rate.{rate_taken}
use Rattle.cojp.specs.Reading.{Reading, refused, read, bind, map_reading, by_version_of, Judgement, broken, unfit, good, if_taken}
use Rattle.cojp.specs.Request.{role_judged, role_concluded, empty_request_state, with_role}
use Rattle.cojp.specs.Request.{with_unsupported, with_error, role_label_status, request_label_status}
use Rattle.cojp.specs.Request.{role_gathered, list_gathered, request_taking, request_form, owing, settled, request_answer}
use Rattle.cojp.specs.Request as request
use Rattle.protocol_version.specs.Version.{allows_additional_info}
use Rattle.cojp.specs.Walk.{Form, label_status_of, known_read, pair_read, pairs_read, scanned_read, payload_read_by}
use Rattle.cojp.specs.declared.configuration.Configuration.{Configuration}
use Rattle.cojp.specs.declared.list.ListParameter.{ListParameter}
use Rattle.cojp.specs.declared.parameter.Parameter.{Parameter}
use Rattle.cojp.specs.declared.parameter.Parameter.TheVariants as name
use Rattle.cojp.specs.declared.disposition.Disposition.{Disposition}
use Rattle.cojp.specs.declared.disposition.Disposition.TheVariants.{Absent, Taken, Discarded}
use Rattle.cojp.specs.declared.request.RequestState.{RequestState}
use Rattle.protocol_version.specs.declared.Version.{Version}
use Rattle.protocol_version.specs.declared.Version.TheVariants.{Draft, Published}
use Rattle.cojp.specs.declared.walk.LabelStatus.{LabelStatus}
use Rattle.cojp.specs.declared.walk.LabelStatus.TheVariants.{Unknown, First, Repeated}
use Rattle.cojp_rfc9031_laws.specs.Labels.{is_in, map_pairs, pairs_in}
use Rattle.cojp_rfc9031_laws.specs.UnknownCount.{configuration_known, request_known, is_known, unknown_in, UnknownCount}
use Rattle.cojp_rfc9031_laws.proofs.Labels.{at_label, each_label}

-- what was read has passed over n labels
abbrev Counts : {S : Type 0} → (S → ℕ) → ℕ → Reading S → Type 0
Counts passed n (refused k) = Unit {0}
Counts passed n (read s) = passed s ≡ n

put-counts : {A S : Type 0} (passed : S → ℕ) (n : ℕ) (f : A → S) → ((a : A) → passed (f a) ≡ n) → (r : Reading A) →
    Counts passed n (map_reading f r)
put-counts passed n f h (refused k) = tt
put-counts passed n f h (read a) = h a

-- ---- where a label stands
abbrev stands : LabelStatus → Bool
stands Unknown = false
stands First = true
stands Repeated = true

report-stands : (r : Disposition) → stands (label_status_of r) ≡ true
report-stands Absent = refl
report-stands Taken = refl
report-stands Discarded = refl

role-stands : (b : Bool) → stands (role_label_status b) ≡ true
role-stands true = refl
role-stands false = refl

-- ---- any object
module _ {S : Type 0} (F : Form S) (known : List ℕ) (passed : S → ℕ)
    (standing : (s : S) (n : ℕ) → stands (F.standing s n) ≡ is_in n known)
    (passes : (s : S) → passed (F.passing s) ≡ passed s + 1)
    (takes : (s : S) (n : ℕ) (v : View) → Counts passed (passed s) (F.taking s n v)) where
  -- the rest of the pairs
  abbrev Rest : Pairs → Type 0
  Rest ps = (s : S) → Counts passed (passed s + unknown_in known ps) (pairs_read F s ps)

  one_more : (ps : Pairs) → Rest ps → (s : S) → Counts passed (passed s + (unknown_in known ps + 1)) (pairs_read F (F.passing s) ps)
  one_more ps rest s =
      subst (λ (n : ℕ). Counts passed n (pairs_read F (F.passing s) ps)) (omega (arith, passes s)) (rest (F.passing s))

  no_more : (ps : Pairs) → Rest ps → (s : S) (r : Reading S) → Counts passed (passed s) r →
      Counts passed (passed s + unknown_in known ps) (bind r (λ t. pairs_read F t ps))
  no_more ps rest s (refused k) h = tt
  no_more ps rest s (read t) h = subst (λ (n : ℕ). Counts passed (n + unknown_in known ps) (pairs_read F t ps)) h (rest t)

  pair-counts : (l : Label) (v : View) (ps : Pairs) → Rest ps → (s : S) →
      Counts passed (passed s + cond (is_known known l) (unknown_in known ps) (unknown_in known ps + 1))
      (bind (pair_read F s l v) (λ t. pairs_read F t ps))
  pair-counts label.NoInteger v ps rest s = tt
  pair-counts label.Negative v ps rest s = one_more ps rest s
  pair-counts (label.Number n) v ps rest s =
      subst
      (λ (b : Bool).
      Counts passed (passed s + cond b (unknown_in known ps) (unknown_in known ps + 1))
      (bind (known_read F (F.standing s n) s n v) (λ t. pairs_read F t ps)))
      (standing s n) (by (F.standing s n))
    where
      by : (x : LabelStatus) →
          Counts passed (passed s + cond (stands x) (unknown_in known ps) (unknown_in known ps + 1))
          (bind (known_read F x s n v) (λ t. pairs_read F t ps))
      by Unknown = one_more ps rest s
      by First = no_more ps rest s (F.taking s n v) (takes s n v)
      by Repeated = tt

  pairs-count : (ps : Pairs) → Rest ps
  pairs-count empty s = omega arith
  pairs-count (pair k v ps) s = pair-counts (label_of k) (view_of v) ps (pairs-count ps) s

  scan-counts : (s : S) (o : Outcome Item) → Counts passed (passed s + unknown_in known (map_pairs o)) (scanned_read F s o)
  scan-counts s (decode.refused k) = tt
  scan-counts s (decode.got (map_item ps) t) = pairs-count ps s
  scan-counts s (decode.got (unsigned n) t) = tt
  scan-counts s (decode.got (negative n) t) = tt
  scan-counts s (decode.got (bytes b) t) = tt
  scan-counts s (decode.got (text b) t) = tt
  scan-counts s (decode.got (array is) t) = tt
  scan-counts s (decode.got (tag n i) t) = tt
  scan-counts s (decode.got (simple n) t) = tt
  scan-counts s (decode.got (float w n) t) = tt

  payload-counts : (s : S) → passed s ≡ 0 → (strict : Bool) (p : List ℕ) →
      Counts passed (unknown_in known (pairs_in strict p)) (payload_read_by F (head_by strict) s p)
  unfolding payload_read_by
  payload-counts s e strict p = by (ltb 256 (length p))
    where
      by : (b : Bool) → Counts passed (unknown_in known (pairs_in strict p))
          (cond b (refused refusal.Long) (scanned_read F s (payload_by (head_by strict) p)))
      by true = tt
      by false =
          subst (λ (n : ℕ). Counts passed n (scanned_read F s (payload_by (head_by strict) p))) (omega (arith, e))
          (scan-counts s (payload_by (head_by strict) p))

-- ---- configurations
configuration-standing : (v : Version) (c : Configuration) (n : ℕ) →
    stands (label_status_for c (parameter_of v n)) ≡ is_in n (configuration_known v)
unfolding parameter_of later_parameter
configuration-standing Draft c n =
    at_label P n 2 (report-stands c.keys.disposition)
    (λ x. at_label P n 3 (report-stands c.address.disposition)
    (λ y. at_label P n 4 (report-stands c.jrc.disposition)
    (λ z. at_label P n 5 (report-stands c.network.disposition)
    (λ u. at_label P n 6 (report-stands c.prefix.disposition) (λ w. rw (x, y, z, u, w))))))
  where
    P : ℕ → Type 0
    P m = stands (label_status_for c (parameter_of Draft m)) ≡ is_in m (configuration_known Draft)
configuration-standing Published c n =
    each_label (λ (m : ℕ). stands (label_status_for c (parameter_of Published m)) ≡ is_in m (configuration_known Published)) n
    (report-stands c.keys.disposition) (report-stands c.address.disposition) (report-stands c.jrc.disposition)
    (report-stands c.blacklist.disposition) (report-stands c.rate.disposition) (λ a b d f g. rw (a, b, d, f, g))

abbrev in_configuration : Configuration → ℕ
in_configuration c = c.unknown

noted-counts : (v : Version) (m n : ℕ) (r : Reading Configuration) → Counts in_configuration m r →
    Counts in_configuration m (map_reading (noted v n) r)
noted-counts v m n (refused k) h = tt
noted-counts v m n (read d) h = h

taking-counts : (v : Version) (c : Configuration) (x : View) (p : Parameter) → Counts in_configuration c.unknown (taking_for v c p x)
taking-counts v c x name.Keys =
    put-counts in_configuration c.unknown (with_keys c) (λ a. refl)
    (by_version_of v (no_keys_parameter Discarded) (keys_read_as (allows_additional_info v) x))
taking-counts v c x name.Address =
    put-counts in_configuration c.unknown (with_address c) (λ a. refl) (by_version_of v (no_address_parameter Discarded) (address_read x))
taking-counts v c x name.Jrc =
    put-counts in_configuration c.unknown (with_jrc c) (λ a. refl) (by_version_of v (no_octets_parameter Discarded) (octets_read 16 x))
taking-counts v c x name.Network = put-counts in_configuration c.unknown (with_network c) (λ a. refl) (octets_read 0 x)
taking-counts v c x name.Prefix = put-counts in_configuration c.unknown (with_prefix c) (λ a. refl) (octets_read 0 x)
taking-counts v c x name.Blacklist = refl
taking-counts v c x name.Rate = refl
taking-counts v c x name.Unknown = refl

configuration-takes : (v : Version) (c : Configuration) (n : ℕ) (x : View) →
    Counts in_configuration c.unknown (configuration_taking v c n x)
unfolding configuration_taking
configuration-takes v c n x = noted-counts v c.unknown n (taking_for v c (parameter_of v n) x) (taking-counts v c x (parameter_of v n))

configuration-counts : (n : ℕ) (r : Reading Configuration) → Counts in_configuration n r → (configuration_answer r).verdict ≡ Ok tt →
    (configuration_answer r).configuration.unknown ≡ n
configuration-counts n (refused k) h e = refused-not k e
configuration-counts n (read c) h e = h

-- ---- join requests
request-standing : (v : Version) (g : RequestState) (n : ℕ) → stands (request_label_status v g n) ≡ is_in n (request_known v)
unfolding request_label_status
request-standing Draft g n =
    at_label P n 1 (role-stands g.named) (λ x. at_label P n 5 (report-stands g.request.network.disposition) (λ y. rw (x, y)))
  where
    P : ℕ → Type 0
    P m = stands (request_label_status Draft g m) ≡ is_in m (request_known Draft)
request-standing Published g n =
    at_label P n 1 (role-stands g.named)
    (λ x. at_label P n 5 (report-stands g.request.network.disposition)
    (λ y. at_label P n 8 (report-stands g.request.unsupported.disposition) (λ z. rw (x, y, z))))
  where
    P : ℕ → Type 0
    P m = stands (request_label_status Published g m) ≡ is_in m (request_known Published)

abbrev in_request : RequestState → ℕ
in_request g = g.request.unknown

role-counts : (v : Version) (g : RequestState) (j : Judgement ℕ) → Counts in_request (in_request g) (role_gathered v g j)
role-counts Draft g j = put-counts in_request (in_request g) (with_role g) (λ n. refl) (role_concluded j)
role-counts Published g broken = refl
role-counts Published g unfit = refl
role-counts Published g (good n) = refl

list_counts : (g : RequestState) (p : ListParameter) → in_request (list_gathered g p) ≡ in_request g
list_counts g p = by p.disposition
  where
    by : (r : Disposition) → in_request (if_taken r (with_unsupported g p) (with_error (with_unsupported g p) 1 8)) ≡ in_request g
    by Absent = refl
    by Taken = refl
    by Discarded = refl

request-takes : (v : Version) (g : RequestState) (n : ℕ) (x : View) → Counts in_request (in_request g) (request_taking v g n x)
unfolding request_taking
request-takes v g n x = by (eqb n 1) (eqb n 5)
  where
    by : (a b : Bool) →
        Counts in_request (in_request g)
        (cond a (role_gathered v g (role_judged x))
        (cond b (map_reading (request.with_network g) (by_version_of v (no_octets_parameter Discarded) (octets_read 0 x)))
        (read (list_gathered g (unsupported_taken x)))))
    by true b = role-counts v g (role_judged x)
    by false true =
        put-counts in_request (in_request g) (request.with_network g) (λ a. refl)
        (by_version_of v (no_octets_parameter Discarded) (octets_read 0 x))
    by false false = list_counts g (unsupported_taken x)

request-counts : (v : Version) (n : ℕ) (r : Reading RequestState) → Counts in_request n r →
    (request_answer (bind r (settled v))).verdict ≡ Ok tt → (request_answer (bind r (settled v))).request.unknown ≡ n
request-counts v n (refused k) h e = refused-not k e
request-counts v n (read g) h e = by (owing v g.request.role g.request.network.disposition) e
  where
    by : (b : Bool) → (request_answer (cond b (refused refusal.Owed) (read g.request))).verdict ≡ Ok tt →
        (request_answer (cond b (refused refusal.Owed) (read g.request))).request.unknown ≡ n
    by true q = refused-not refusal.Owed q
    by false q = h

-- ---- the examples are computed
pub passed_over : UnknownCount
unfolding payload_by info_of decode_by heading argument next digits members pairs major_of octets_judged padded payload_read_by parameter_of
    later_parameter configuration_taking added rate_taken request_label_status request_taking owing
passed_over = record {
  configuration = λ v strict p.
      configuration-counts (unknown_in (configuration_known v) (pairs_in strict p))
      (payload_read_by (configuration_form v) (head_by strict) empty_configuration p)
      (payload-counts (configuration_form v) (configuration_known v) in_configuration (configuration-standing v) (λ c. refl)
      (configuration-takes v) empty_configuration refl strict p);
  request = λ v strict p.
      request-counts v (unknown_in (request_known v) (pairs_in strict p))
      (payload_read_by (request_form v) (head_by strict) empty_request_state p)
      (payload-counts (request_form v) (request_known v) in_request (request-standing v) (λ g. refl) (request-takes v) empty_request_state
      refl
      strict p);
  three-passed = refl;
  none_passed = refl;
  draft-passed = refl;
  one-passed = refl;
}
