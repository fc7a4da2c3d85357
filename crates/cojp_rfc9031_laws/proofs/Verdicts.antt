-- The walk over the pairs agrees with the labels' verdict; a request that it accepts is OWED where its identifier is not taken.
use Rattle.std.specs.Prelude.{Ok, Err}
use Prim.Native.Nat.{ℕ}
use mathlib.Core.Path.{◌≡◌, refl, sym, ap, ◌∙◌}
use mathlib.Core.Bool.{Bool, true, false, cond}
use mathlib.Core.List.{List, []}
use lib.Dec.{ltb}
use lib.ListN.{length}
use Rattle.refusal.specs.declared.Refusal.TheVariants as refusal
use Rattle.refusal.specs.Verdict.{Verdict}
use Rattle.byte_io.specs.BigEndian.{digits}
use Rattle.cbor.specs.Decode.{Outcome, payload_by, decode_by, heading, argument, next, members, pairs, major_of}
use Rattle.cbor.specs.Encode.{info_of}
use Rattle.cbor.specs.Decode as decode
use Rattle.cbor.specs.Item.{Item, unsigned, negative, bytes, text, array, map_item, tag, simple, float}
use Rattle.cbor.specs.Strict.{head_by}
use Rattle.cojp.specs.Configuration.{configuration_answer, configuration_form, empty_configuration, configuration_taking}
use Rattle.cojp.specs.Octets.{octets_judged}
use Rattle.cojp.specs.Parameter.{parameter_of, later_parameter}
use Rattle.cojp.specs.Reading.{Reading, refused, read, bind, if_taken}
use Rattle.cojp.specs.Request.{empty_request_state, owing, request_answer, request_form, settled}
use Rattle.cojp.specs.Walk.{payload_read_by}
use Rattle.cojp.specs.declared.configuration.Configuration.{Configuration}
use Rattle.cojp.specs.declared.disposition.Disposition.{Disposition}
use Rattle.cojp.specs.declared.disposition.Disposition.TheVariants.{Absent, Taken, Discarded}
use Rattle.cojp.specs.declared.request.RequestState.{RequestState}
use Rattle.protocol_version.specs.declared.Version.TheVariants.{Published}
use Rattle.cojp_rfc9031_laws.specs.Labels.{configuration_labels, request_labels, Known, known_in}
use Rattle.cojp_rfc9031_laws.specs.Labels.{labels_verdict, scan_verdict, payload_verdict, map_pairs, pairs_in}
use Rattle.cojp_rfc9031_laws.specs.Verdicts.{identified, or_owed, configuration_verdict, request_verdict, BadNeverRefuses}
use Rattle.cojp_rfc9031_laws.proofs.Configurations.{Seen, configuration-agrees}
use Rattle.cojp_rfc9031_laws.proofs.Requests.{Asked, request-agrees}
use Rattle.cojp_rfc9031_laws.proofs.Walk.{Agrees}

-- ---- configurations
answered : (ks : List Known) (w : Verdict) (r : Reading Configuration) → Agrees w (Seen ks) r → (configuration_answer r).verdict ≡ w
answered ks w (refused k) a = sym a
answered ks w (read c) a = sym a.0

-- ---- requests: OWED comes last
owed-last : (good : Bool) (r : Disposition) (role : ℕ) → if_taken r true false ≡ good → owing Published role r ≡ cond good false true
unfolding owing
owed-last good Absent role e = ap (λ (b : Bool). cond b false true) e
owed-last good Taken role e = ap (λ (b : Bool). cond b false true) e
owed-last good Discarded role e = ap (λ (b : Bool). cond b false true) e

settled-by : (ks : List Known) (w : Verdict) (r : Reading RequestState) → Agrees w (Asked ks) r →
    (request_answer (bind r (settled Published))).verdict ≡ or_owed (identified ks) w
settled-by ks w (refused k) a = ap (or_owed (identified ks)) (sym a)
settled-by ks w (read g) a =
    rw (owed-last (identified ks) g.request.network.disposition g.request.role a.1.due) (by (identified ks))
    ∙ ap (or_owed (identified ks)) (sym a.0)
  where
    by : (b : Bool) → (request_answer (cond (cond b false true) (refused refusal.Owed) (read g.request))).verdict
        ≡ cond b (Ok tt) (Err refusal.Owed)
    by true = refl
    by false = refl

-- the same, asked inside the verdict of the payload
owed-inside : (o : Outcome Item) →
    or_owed (identified (known_in request_labels (map_pairs o))) (scan_verdict (labels_verdict request_labels []) o)
    ≡ scan_verdict request_verdict o
owed-inside (decode.refused k) = refl
owed-inside (decode.got (map_item ps) t) = refl
owed-inside (decode.got (unsigned n) t) = refl
owed-inside (decode.got (negative n) t) = refl
owed-inside (decode.got (bytes b) t) = refl
owed-inside (decode.got (text b) t) = refl
owed-inside (decode.got (array is) t) = refl
owed-inside (decode.got (tag n i) t) = refl
owed-inside (decode.got (simple n) t) = refl
owed-inside (decode.got (float w n) t) = refl

owed-payload : (strict : Bool) (p : List ℕ) →
    or_owed (identified (known_in request_labels (pairs_in strict p))) (payload_verdict (labels_verdict request_labels []) strict p)
    ≡ payload_verdict request_verdict strict p
owed-payload strict p = by (ltb 256 (length p))
  where
    by : (b : Bool) →
        or_owed (identified (known_in request_labels (pairs_in strict p)))
        (cond b (Err refusal.Long) (scan_verdict (labels_verdict request_labels []) (payload_by (head_by strict) p)))
        ≡ cond b (Err refusal.Long) (scan_verdict request_verdict (payload_by (head_by strict) p))
    by true = refl
    by false = owed-inside (payload_by (head_by strict) p)

pub bad-never-refuses : BadNeverRefuses
unfolding payload_by info_of decode_by heading argument next digits members pairs major_of octets_judged payload_read_by parameter_of
    later_parameter
    configuration_taking
bad-never-refuses = record {
  configuration = λ strict p. answered (known_in configuration_labels (pairs_in strict p)) (payload_verdict configuration_verdict strict p)
      (payload_read_by (configuration_form Published) (head_by strict) empty_configuration p) (configuration-agrees strict p);
  request = λ strict p.
      settled-by (known_in request_labels (pairs_in strict p)) (payload_verdict (labels_verdict request_labels []) strict p)
      (payload_read_by (request_form Published) (head_by strict) empty_request_state p) (request-agrees strict p)
      ∙ owed-payload strict p;
  example = refl;
}
