-- A payload that is accepted has at most 256 bytes, so each of its values is small; the walk over its pairs keeps what each value tells.
use Rattle.std.specs.Prelude.{Ok}
use Prim.Native.Nat.{ℕ, ◌≤◌}
use native.Mathlib.Omega.{arith}
use mathlib.Core.Path.{◌≡◌, refl, sym, ap, ◌∙◌}
use mathlib.Core.Bool.{Bool, true, false, cond}
use mathlib.Core.List.{List, []}
use lib.Dec.{ltb}
use lib.ListN.{length}
use borrow.Author.Tests.{ltb-false}
use Rattle.refusal.specs.RefusalLemmas.{refused-not}
use Rattle.refusal.specs.declared.Refusal.TheVariants as refusal
use Rattle.refusal.specs.Verdict.{Verdict}
use Rattle.cbor.specs.Decode.{Outcome, Heading, payload}
use Rattle.cbor.specs.Decode as decode
use Rattle.cbor.specs.HeadLaws.{HeadLaws}
use Rattle.cbor.specs.Item.{Item, unsigned, negative, bytes, text, array, map_item, tag, simple, float}
use Rattle.cbor.specs.Laws.{Bytes, ItemLaws}
use Rattle.cbor.specs.Strict.{head_by, loose_payload}
use Rattle.cojp.specs.Configuration.{configuration_answer, configuration_form, empty_configuration}
use Rattle.cojp.specs.Reading.{Reading, refused, read, bind}
use Rattle.cojp.specs.Request.{empty_request_state, owing, request_answer, request_form, settled}
use Rattle.cojp.specs.Walk.{Form, payload_read_by}
use Rattle.cojp.specs.declared.configuration.Configuration.{Configuration}
use Rattle.cojp.specs.declared.request.RequestState.{RequestState}
use Rattle.protocol_version.specs.declared.Version.TheVariants.{Published}
use Rattle.cojp_rfc9031_laws.specs.GoodValues.{Configured, Requested, GoodValues}
use Rattle.cojp_rfc9031_laws.specs.Labels.{configuration_labels, request_labels, Known, known_in}
use Rattle.cojp_rfc9031_laws.specs.Labels.{labels_verdict, payload_verdict, map_pairs, pairs_in}
use Rattle.cojp_rfc9031_laws.specs.Verdicts.{configuration_of, request_of}
use Rattle.cojp_rfc9031_laws.proofs.CameAs.{Small, small-known}
use Rattle.cojp_rfc9031_laws.proofs.GoodConfigurations as configurations
use Rattle.cojp_rfc9031_laws.proofs.GoodRequests as requests
use Rattle.cojp_rfc9031_laws.proofs.Items.{pairs_size, payload-map}
use Rattle.cojp_rfc9031_laws.proofs.Walk.{Agrees}

-- ---- a payload that is too long is refused
long-refused : {S : Type 0} (F : Form S) (head : List ℕ → Outcome Heading) (s : S) (p : List ℕ) → ltb 256 (length p) ≡ true →
    payload_read_by F head s p ≡ refused refusal.Long
unfolding payload_read_by
long-refused F head s p e = rw e

-- an object whose answer refuses what is refused
short-payload : {S : Type 0} (F : Form S) (head : List ℕ → Outcome Heading) (s : S) (p : List ℕ) (say : Reading S → Verdict) →
    (say (refused refusal.Long) ≡ Ok tt → ⊥) → say (payload_read_by F head s p) ≡ Ok tt → length p ≤ 256
short-payload F head s p say refuses e = by (ltb 256 (length p)) refl
  where
    by : (b : Bool) → ltb 256 (length p) ≡ b → length p ≤ 256
    by true l = absurd (refuses (ap say (sym (long-refused F head s p l)) ∙ e))
    by false l = ltb-false 256 (length p) l

-- ---- the pairs of one that is not
module _ (laws : ItemLaws) (H : HeadLaws) (p : List ℕ) (b : Bytes p) (short : length p ≤ 256) where
  ordinary : (o : Outcome Item) → payload p ≡ o → pairs_size (map_pairs o) ≤ 255
  ordinary (decode.refused k) e = omega arith
  ordinary (decode.got (map_item ps) t) e = omega (arith, short, (payload-map laws H p b ps t e).size)
  ordinary (decode.got (unsigned n) t) e = omega arith
  ordinary (decode.got (negative n) t) e = omega arith
  ordinary (decode.got (bytes x) t) e = omega arith
  ordinary (decode.got (text x) t) e = omega arith
  ordinary (decode.got (array is) t) e = omega arith
  ordinary (decode.got (tag n i) t) e = omega arith
  ordinary (decode.got (simple n) t) e = omega arith
  ordinary (decode.got (float w n) t) e = omega arith

  pairs_small : (strict : Bool) → pairs_size (pairs_in strict p) ≤ 255
  pairs_small false = ordinary (payload p) refl
  pairs_small true = rw (laws.strict p) (by (loose_payload p))
    where
      by : (l : Bool) → pairs_size (map_pairs (cond l (decode.refused refusal.Loose) (payload p))) ≤ 255
      by true = omega arith
      by false = ordinary (payload p) refl

-- ---- what is answered
module _ (H : HeadLaws) (w : Verdict) (ks : List Known) (small : Small ks) where
  configuration-of : (r : Reading Configuration) → Agrees w (configurations.Both ks) r → (configuration_answer r).verdict ≡ Ok tt →
      Configured ks (configuration_answer r).configuration
  configuration-of (refused k) a e = refused-not k e
  configuration-of (read c) a e = configurations.configured H ks c small a.1.1

  request-of : (r : Reading RequestState) → Agrees w (requests.Both ks) r →
      (request_answer (bind r (settled Published))).verdict ≡ Ok tt →
      Requested ks (request_answer (bind r (settled Published))).request
  request-of (refused k) a e = refused-not k e
  request-of (read g) a e = by (owing Published g.request.role g.request.network.disposition) e
    where
      by : (b : Bool) → (request_answer (cond b (refused refusal.Owed) (read g.request))).verdict ≡ Ok tt →
          Requested ks (request_answer (cond b (refused refusal.Owed) (read g.request))).request
      by true q = refused-not refusal.Owed q
      by false q = requests.requested H ks g small a.1.1

module _ (laws : ItemLaws) (H : HeadLaws) where
  configuration : (strict : Bool) (p : List ℕ) → Bytes p → (configuration_of strict p).verdict ≡ Ok tt →
      Configured (known_in configuration_labels (pairs_in strict p)) (configuration_of strict p).configuration
  configuration strict p b e =
      let short =
      short-payload (configuration_form Published) (head_by strict) empty_configuration p (λ r. (configuration_answer r).verdict)
      (λ q. refused-not refusal.Long q) e in
      configuration-of H (payload_verdict (labels_verdict configuration_labels []) strict p)
      (known_in configuration_labels (pairs_in strict p))
      (small-known configuration_labels (pairs_in strict p) (pairs_small laws H p b short strict))
      (payload_read_by (configuration_form Published) (head_by strict) empty_configuration p) (configurations.configuration-kept strict p) e

  request : (strict : Bool) (p : List ℕ) → Bytes p → (request_of strict p).verdict ≡ Ok tt →
      Requested (known_in request_labels (pairs_in strict p)) (request_of strict p).request
  request strict p b e =
      let short =
      short-payload (request_form Published) (head_by strict) empty_request_state p
      (λ r. (request_answer (bind r (settled Published))).verdict) (λ q. refused-not refusal.Long q) e in
      request-of H (payload_verdict (labels_verdict request_labels []) strict p) (known_in request_labels (pairs_in strict p))
      (small-known request_labels (pairs_in strict p) (pairs_small laws H p b short strict))
      (payload_read_by (request_form Published) (head_by strict) empty_request_state p) (requests.request-kept strict p) e

  pub good-values : GoodValues
  good-values = record { configuration = configuration; request = request }
