-- The objects' pairs are few and small: parameter by parameter.
use Prim.Native.Nat.{ℕ, ◌+◌, ◌≤◌}
use mathlib.Core.Path.{◌≡◌, refl}
use mathlib.Core.Bool.{Bool, true, false, cond, not}
use mathlib.Core.List.{List}
use native.Mathlib.Omega.{arith}
use borrow.Author.Tests.{leb-true, le-leb, not-false}
use lib.Dec.{leb}
use lib.ListN.{length}
use Rattle.refusal.specs.declared.Refusal.{Refusal}
use Rattle.refusal.specs.declared.Refusal.TheVariants.{Range, Owed}
use Rattle.byte_io.specs.Write.{Plan, refuse, emit}
use Rattle.cbor.specs.Encode.{encode}
use Rattle.cbor.specs.HeadLaws.{HeadLaws}
use Rattle.cbor.specs.Item.{map_item}
use Rattle.cbor.specs.Laws.{ItemLaws, Bytes}
use Rattle.link_key.specs.set.KeyLaws.{KeyLaws}
use Rattle.cojp.specs.Lists.{strings_in, error_reports_in, at_least_one}
use Rattle.cojp.specs.Request.{owing}
use Rattle.protocol_version.specs.Version.{by_version, allows_additional_info}
use Rattle.cojp.specs.Writing.{fits, request_pairs, request_in_range, owing_plan, request_plan}
use Rattle.cojp.specs.Writing.{configuration_pairs, configuration_in_range, configuration_plan}
use Rattle.cojp.specs.declared.configuration.Configuration.{Configuration}
use Rattle.cojp.specs.declared.request.JoinRequest.{JoinRequest}
use Rattle.protocol_version.specs.declared.Version.{Version}
use Rattle.protocol_version.specs.declared.Version.TheVariants.{Draft}
use Rattle.cojp_list.specs.Laws.{ListLaws}
use Rattle.cojp_write.specs.octets.Fits.{RequestFits}
use Rattle.cojp_write.proofs.octets.Limits.{Judged, configuration-fits}
use Rattle.cojp_write.proofs.octets.Maps.{map-length}
use Rattle.cojp_laws.specs.Largest.{LargestConfiguration, DraftWritten, PayloadsFit}
use Rattle.cojp_laws.proofs.Fine.{Fine, fine-join, fine-role, fine-octets, fine-address}
use Rattle.cojp_laws.proofs.Fine.{fine-keys, fine-rate, jrc-in-range, groups_room}
use Rattle.cojp_laws.proofs.FineLists.{strings-fit, some_fit, fine-list}
use Rattle.cojp_laws.proofs.Forms.{ReportsOf, of-form, keys-fitting}
use Rattle.cojp_laws.proofs.Typed.{TypedConfiguration}

-- ---- a plan that is no refusal
pub emits : (b : Bool) (k : Refusal) (plan : Plan) (p : List ℕ) → cond b (refuse k) plan ≡ emit p → (b ≡ false) × (plan ≡ emit p)
emits true k plan p e = absurd (let z : ◌≡◌ {A = ℕ} 0 1 = cc in omega arith)
emits false k plan p e = (refl, e)

-- it is the payload, of at most 256 bytes
pub fitted : (s p : List ℕ) → fits s ≡ emit p → (length s ≤ 256) × (s ≡ p)
fitted s p e = go (leb (length s) 256) refl e
  where
    go : (b : Bool) → leb (length s) 256 ≡ b → cond b (emit s) (refuse Range) ≡ emit p → (length s ≤ 256) × (s ≡ p)
    go true h e = (leb-true (length s) 256 h, cc)
    go false h e = absurd (let z : ◌≡◌ {A = ℕ} 0 1 = cc in omega arith)

-- nothing is owed
pub owed_none : (o : Bool) (s p : List ℕ) → owing_plan o (fits s) ≡ emit p → (o ≡ false) × (fits s ≡ emit p)
owed_none o s p e = go (fits s) e
  where
    go : (plan : Plan) → owing_plan o plan ≡ emit p → (o ≡ false) × (plan ≡ emit p)
    go (refuse k) e = absurd (let z : ◌≡◌ {A = ℕ} 0 1 = cc in omega arith)
    go (emit s) e = emits o Owed (emit s) p e

-- ---- what is written fits
pub payloads-fit : PayloadsFit
unfolding request_plan configuration_plan
payloads-fit = record { request = request; configuration = configuration }
  where
    request : (v : Version) (q : JoinRequest) (p : List ℕ) → request_plan v q ≡ emit p → length p ≤ 256
    request v q p e =
        let s = encode (map_item (request_pairs q)) in
        let owes = owing v q.role q.network.disposition in
        let (a, f) = emits (not (request_in_range v q)) Range (owing_plan owes (fits s)) p e in
        let (n, y) = fitted s p (owed_none owes s p f).1 in
        rw (← y) n

    configuration : (v : Version) (c : Configuration) (p : List ℕ) → configuration_plan v c ≡ emit p → length p ≤ 256
    configuration v c p e =
        let s = encode (map_item (configuration_pairs c)) in
        let (n, y) = fitted s p (emits (not (configuration_in_range v c)) Range (fits s) p e).1 in
        rw (← y) n

module _ (heads : HeadLaws) (items : ItemLaws) (lists : ListLaws) where
  -- ---- the join request
  pub fine-request : (v : Version) (q : JoinRequest) → RequestFits q → ReportsOf v q.unsupported → Bytes q.unsupported.value.bytes
      → Fine (request_pairs q) 3 (2 + 18 + by_version v 0 272)
  fine-request v q f u b =
      let role = fine-role heads q.role f.role in
      let network = fine-octets heads 5 q.network (omega arith) f.network in
      fine-join (fine-join role network)
      (fine-list heads items (at_least_one error_reports_in) some_fit lists.unsupported-written v 8 q.unsupported (omega arith) u b)

  module _ (keys : KeyLaws) (c : Configuration) (typed : TypedConfiguration c) where
    -- ---- the configuration
    pub fine-configuration : (v : Version) → Judged v c
        → Fine (configuration_pairs c) 7
        (3 + groups_room (allows_additional_info v) 8 + 14 + 18 + 18 + 18 + by_version v 0 272 + by_version v 0 10)
    fine-configuration v f =
        let o = of-form v c f.form in
        let k = fine-keys heads keys (allows_additional_info v) c.keys f.keys (keys-fitting keys v c.keys o.keys) in
        let a = fine-address heads c.address typed.two typed.lease in
        let j = fine-octets heads 4 c.jrc (omega arith) (jrc-in-range c.jrc f.jrc) in
        let n = fine-octets heads 5 c.network (omega arith) f.network in
        let p = fine-octets heads 6 c.prefix (omega arith) f.prefix in
        let l = fine-list heads items strings_in strings-fit lists.blacklist-written v 6 c.blacklist (omega arith) o.blacklist
        typed.list in
        fine-join (fine-join (fine-join (fine-join (fine-join (fine-join k a) j) n) p) l)
        (fine-rate heads v c.rate o.rate typed.rate)

    -- in the draft
    draft-size : configuration_in_range Draft c ≡ true → length (encode (map_item (configuration_pairs c))) ≤ 232
    draft-size within =
        let f = fine-configuration Draft (configuration-fits Draft c within) in
        omega (arith, map-length heads (configuration_pairs c) (omega (arith, f.few)), f.small)

    pub largest-configuration : LargestConfiguration c
    unfolding configuration_plan
    largest-configuration p e =
        let s = encode (map_item (configuration_pairs c)) in
        let (a, x) = emits (not (configuration_in_range Draft c)) Range (fits s) p e in
        let (n, y) = fitted s p x in
        rw (← y) (draft-size (not-false (configuration_in_range Draft c) a))

    pub draft-written : DraftWritten c
    unfolding configuration_plan
    draft-written within = rw (within, le-leb (length (encode (map_item (configuration_pairs c)))) 256 (omega (arith, draft-size within)))
