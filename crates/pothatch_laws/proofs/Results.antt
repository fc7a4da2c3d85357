-- What is read of bytes fits, and what stands in a good image fits; each call makes its result of such values and of the empty ones, which
-- are what is read of no bytes.
use Rattle.std.specs.Prelude.{None, Some}
use Prim.Native.Nat.{ℕ}
use mathlib.Core.Bool.{true, false, ◌&&◌}
use mathlib.Core.List.{List, []}
use mathlib.Core.Path.{◌≡◌, refl}
use native.Mathlib.Omega.{arith}
use borrow.Author.Tests.{eqb-true, eqb-false}
use lib.Dec.{eqb}
use lib.ListN.{length, take}
use Rattle.lemmas.specs.logic.Tests.{both_left, both_right}
use Rattle.image.specs.Part.{Part, AllBytes, RoundTrips}
use Rattle.aes_ccm.specs.Laws.{CcmLaws}
use Rattle.aes_ccm.specs.Plan.{Plan, refuse, emit}
use Rattle.lemmas.specs.lists.Same.{same}
use Rattle.cbor.specs.Decode.{payload_by, decode_by, heading}
use Rattle.cojp.specs.Configuration.{empty_configuration, refuse_configuration}
use Rattle.cojp.specs.Reading.{if_taken}
use Rattle.cojp.specs.Request.{empty_request, refuse_request}
use Rattle.cojp.specs.Walk.{payload_read_by}
use Rattle.cojp.specs.declared.configuration.Configuration.{Configuration}
use Rattle.cojp.specs.declared.configuration.ConfigurationRead.{ConfigurationRead}
use Rattle.cojp.specs.declared.octets.OctetsParameter.{OctetsParameter}
use Rattle.cojp.specs.declared.disposition.Disposition.{Disposition}
use Rattle.cojp.specs.declared.disposition.Disposition.TheVariants.{Absent, Taken, Discarded}
use Rattle.cojp.specs.declared.request.RequestRead.{RequestRead}
use Rattle.protocol_version.specs.declared.Version.TheVariants.{Draft}
use Rattle.cojp_merge.specs.Merge.{of_draft, merge_answer}
use Rattle.cojp_merge.specs.declared.MergeResult.{MergeResult}
use Rattle.cojp_serial.specs.State.{decision_of, end_read, end_state}
use Rattle.cojp_serial.specs.declared.state.PartDecision.{PartDecision}
use Rattle.cojp_serial.specs.declared.state.PartDecision.TheVariants.{Outside, Overrun, Ended, Open}
use Rattle.join_proxy.specs.Issuing.{raised_from, after_issue}
use Rattle.join_proxy.specs.Keys.{fresh, set_key}
use Rattle.join_proxy.specs.Issued.{Issued}
use Rattle.join_proxy.specs.declared.proxy.SetKeyResult.{SetKeyResult}
use Rattle.join_proxy.specs.declared.proxy.Proxy.{Proxy}
use Rattle.node_call_laws.specs.Fits.{CallsFit}
use Rattle.node_image.specs.Node.{node_image}
use Rattle.object_image.specs.Address.{address_parameter_part}
use Rattle.object_image.specs.Configuration.{keys_parameter_part, configuration_image}
use Rattle.object_image.specs.Octets.{octets_parameter_part}
use Rattle.object_image.specs.Request.{request_image}
use Rattle.payload_calls.specs.Asked.{version_of}
use Rattle.payload_calls.specs.Read.{request_asked, configuration_asked}
use Rattle.serial_calls.specs.Serial.{serial_image}
use Rattle.state_image.specs.Ledger.{ledger_image}
use Rattle.state_image.specs.Proxy.{Held, proxy_image}
use Rattle.trace.specs.Contiguous.{RecordsContiguous}
use Rattle.pothatch_laws.specs.Results.{Holds, IsKey, ResultsFit}
use Rattle.pothatch_laws.proofs.Arriving.{none-fits, part-fits, end_fits}
use Rattle.pothatch_laws.proofs.Bounds.{opened-fits, asked-fits, returned-fits}
use Rattle.pothatch_laws.proofs.Cases.{either}
use Rattle.pothatch_laws.proofs.Statistics.{replayed-node-fits, replayed-fits}
use Rattle.pothatch_laws.proofs.Pledges.{judged-fits}
use Rattle.pothatch_laws.proofs.Records.{taken}

-- what an image holds fits
held_fits : {A : Type 0} (p : Part A) (s : List ℕ) → RoundTrips p → Holds p s → p.Fit (p.get s)
held_fits p s l h =
    let long = eqb-true (length s) p.size (both_left (eqb (length s) p.size) (p.good s) h.image) in
    l.fits s h.bytes (omega arith) (both_right (eqb (length s) p.size) (p.good s) h.image)

by-report : {A : Type 0} (P : A → Type 0) (r : Disposition) {x y : A} → P x → P y → P (if_taken r x y)
by-report P Absent f g = g
by-report P Taken f g = f
by-report P Discarded f g = g

-- the later of two byte strings
octets : (x y : OctetsParameter) → octets_parameter_part.Fit x → octets_parameter_part.Fit y
    → octets_parameter_part.Fit (if_taken y.disposition y x)
octets x y f g = by-report octets_parameter_part.Fit y.disposition g f

-- ---- payloads
module _ (follow : CallsFit) where
  requests : (form reading : ℕ) (p : List ℕ) → AllBytes p → request_image.Fit (request_asked form reading p).request
  requests form reading p b =
      let fit = (follow.reads_fit p b).request (version_of form) in
      either (λ (r : RequestRead). request_image.Fit r.request) (eqb reading 0) (λ _. fit false) (λ _. fit true)

  configurations : (form reading : ℕ) (p : List ℕ) → AllBytes p → configuration_image.Fit (configuration_asked form reading p).configuration
  configurations form reading p b =
      let fit = (follow.reads_fit p b).configuration (version_of form) in
      either (λ (r : ConfigurationRead). configuration_image.Fit r.configuration) (eqb reading 0) (λ _. fit false) (λ _. fit true)

  empty-fits : configuration_image.Fit empty_configuration
  unfolding payload_read_by payload_by decode_by heading
  empty-fits = (follow.reads_fit [] (λ i. omega arith)).configuration Draft false

  no-request : request_image.Fit empty_request
  unfolding payload_read_by payload_by decode_by heading
  no-request = (follow.reads_fit [] (λ i. omega arith)).request Draft false

  -- at the end of the parts, where that comes to its reading
  request-by : (decision : PartDecision) (form reading : ℕ) (p : List ℕ) → AllBytes p
      → request_image.Fit (end_read refuse_request (request_asked form reading) decision p).request
  request-by Outside form reading p b = no-request
  request-by Overrun form reading p b = no-request
  request-by Ended form reading p b = no-request
  request-by Open form reading p b = requests form reading p b

  configuration-by : (decision : PartDecision) (form reading : ℕ) (p : List ℕ) → AllBytes p
      → configuration_image.Fit (end_read refuse_configuration (configuration_asked form reading) decision p).configuration
  configuration-by Outside form reading p b = empty-fits
  configuration-by Overrun form reading p b = empty-fits
  configuration-by Ended form reading p b = empty-fits
  configuration-by Open form reading p b = configurations form reading p b

  merged-fits : (c d : Configuration) → configuration_image.Fit c → configuration_image.Fit d
      → configuration_image.Fit (merge_answer c d).configuration
  unfolding merge_answer
  merged-fits c d f g =
      let a = f.0 in
      let b = g.0 in
      either (λ (m : MergeResult). configuration_image.Fit m.configuration)
      (of_draft c && of_draft d)
      (λ _. (
        (
          by-report keys_parameter_part.Fit d.keys.disposition b.0 a.0,
          (
            by-report address_parameter_part.Fit d.address.disposition b.1.0 a.1.0,
            (
              octets c.jrc d.jrc a.1.1.0 b.1.1.0,
              (
                octets c.network d.network a.1.1.1.0 b.1.1.1.0,
                octets c.prefix d.prefix a.1.1.1.1 b.1.1.1.1,
              ),
            ),
          ),
        ),
        empty-fits.1,
      ))
      (λ _. empty-fits)

-- ---- proxies
fresh-fits : (key : List ℕ) → IsKey key → proxy_image.Fit (fresh key)
fresh-fits key k = ((k.long, k.bytes), omega arith)

keyed-fits : (p : Proxy) (key : List ℕ) → proxy_image.Fit p → IsKey key → proxy_image.Fit (set_key p key).proxy
keyed-fits p key f k = either (λ (x : SetKeyResult). proxy_image.Fit x.proxy) (same p.key key) (λ _. f) (λ _. fresh-fits key k)

raised-fits : (i : Issued) → Held i → Held (raised_from i)
raised-fits (Some n) h =
    either Held (eqb n 4294967295) (λ _. refl) (λ e. let less : ¬ (n ≡ 4294967295) = eqb-false n 4294967295 e in omega arith)
raised-fits None h = refl

issued-fits : (plan : Plan) (p : Proxy) → proxy_image.Fit p → proxy_image.Fit (after_issue plan p)
issued-fits (refuse k) p f = f
issued-fits (emit body) p f = (f.0, raised-fits p.next f.1)

-- ---- arrivals: whatever the end reads
ended-fits : (s m : List ℕ) → RoundTrips serial_image → Holds serial_image s
    → serial_image.Fit (end_state (decision_of (serial_image.get s) (length m) 0) (serial_image.get s))
ended-fits s m laws f = end_fits (decision_of (serial_image.get s) (length m) 0) (serial_image.get s) (held_fits serial_image s laws f)

module _ (follow : CallsFit) (stands : RecordsContiguous) (ccm : CcmLaws) (configuration_laws : RoundTrips configuration_image)
    (node_laws : RoundTrips node_image) (proxy_laws : RoundTrips proxy_image) (ledger_laws : RoundTrips ledger_image)
    (serial_laws : RoundTrips serial_image) where
  pub results_fit : ResultsFit
  results_fit = record {
    request = requests follow;
    configuration = configurations follow;
    request-end = λ s m form reading b.
        let a = serial_image.get s in
        request-by follow (decision_of a (length m) 0) form reading (take a.arrived m) (taken a.arrived m b);
    configuration-end = λ s m form reading b.
        let a = serial_image.get s in
        configuration-by follow (decision_of a (length m) 0) form reading (take a.arrived m) (taken a.arrived m b);
    merged = λ s t f g.
        merged-fits follow (configuration_image.get s) (configuration_image.get t)
        (held_fits configuration_image s configuration_laws f) (held_fits configuration_image t configuration_laws g);
    made = follow.made-fits;
    node = λ c s h f. follow.keeps-fit c (node_image.get s) h (held_fits node_image s node_laws f);
    answer = λ c s h f. follow.answer-fits c (node_image.get s) h (held_fits node_image s node_laws f);
    replayed-node = λ t b. replayed-node-fits stands t b follow;
    replayed = λ t b h. replayed-fits stands t b h;
    ledger = opened-fits;
    granted = λ board s m f. asked-fits board (ledger_image.get s) m (held_fits ledger_image s ledger_laws f);
    given_back = λ board s m f. returned-fits board (ledger_image.get s) m (held_fits ledger_image s ledger_laws f);
    arrival = none-fits;
    part = λ s m p f.
        let a = serial_image.get s in
        part-fits (decision_of a (length m) (length p)) a (length m) (length p) refl (held_fits serial_image s serial_laws f);
    ended-request = λ s m form reading f. ended-fits s m serial_laws f;
    ended-configuration = λ s m form reading f. ended-fits s m serial_laws f;
    proxy = fresh-fits;
    keyed = λ s key f k. keyed-fits (proxy_image.get s) key (held_fits proxy_image s proxy_laws f) k;
    issued = λ s plan f. issued-fits plan (proxy_image.get s) (held_fits proxy_image s proxy_laws f);
    judged = λ s body f b. judged-fits ccm (proxy_image.get s) body (held_fits proxy_image s proxy_laws f) b;
  }
