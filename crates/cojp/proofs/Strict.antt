-- The strict readings, from what the layer below promises of a payload that is read strictly.
use Rattle.std.specs.Prelude.{Err}
use Prim.Native.Nat.{ℕ, ◌≤◌}
use mathlib.Core.Path.{◌≡◌, refl, ap, ◌∙◌}
use mathlib.Core.Bool.{Bool, true, false, cond}
use mathlib.Core.List.{List}
use native.Mathlib.Omega.{arith}
use lib.Dec.{ltb, eqb}
use lib.ListN.{length}
use Rattle.refusal.specs.Refusal.{number_of}
use Rattle.refusal.specs.declared.Refusal.{Refusal}
use Rattle.refusal.specs.declared.Refusal.TheVariants.{«Type», Twice, Keys, Role, Owed, Long, Loose}
use Rattle.cbor.specs.Item.{Item, Pairs, unsigned, negative, bytes, text, array, map_item, tag, simple, float, empty, pair}
use Rattle.cbor.specs.Decode.{Outcome, payload}
use Rattle.cbor.specs.Decode as decode
use Rattle.cbor.specs.Laws.{ItemLaws}
use Rattle.cbor.specs.Strict.{strict_heading, loose_payload}
use Rattle.cbor.specs.View.{View, label_of, view_of}
use Rattle.cbor.specs.declared.value.Label.{Label}
use Rattle.cbor.specs.declared.value.Label.TheVariants as label
use Rattle.cojp.specs.Address.{address_parameter, no_address_parameter, address_judged, address_read}
use Rattle.cojp.specs.Configuration.{empty_configuration, with_keys, with_address, with_jrc, with_network, with_prefix, taking_for, noted}
use Rattle.cojp.specs.Configuration.{configuration_taking, configuration_form, configuration_answer}
use Rattle.cojp.specs.KeySet.{keys_parameter, no_keys_parameter, keys_judged_as, keys_read_as}
use Rattle.cojp.specs.Laws.{StrictReaders, meets_longer}
use Rattle.cojp.specs.Octets.{octets_parameter, no_octets_parameter, octets_judged, octets_read}
use Rattle.cojp.specs.Reading.{Reading, refused, read, bind, map_reading, Judgement, broken, unfit, good, concluded, by_version_of}
use Rattle.cojp.specs.Request.{empty_request_state, with_role, with_network as with_identifier, role_judged, role_concluded, role_gathered}
use Rattle.cojp.specs.Request.{request_taking, request_form, request_answer, owing, settled}
use Rattle.cojp.specs.Parameter.{parameter_of}
use Rattle.protocol_version.specs.Version.{allows_additional_info}
use Rattle.cojp.specs.Walk.{Form, known_read, pair_read, pairs_read, map_read, scanned_read, payload_read, payload_read_by}
use Rattle.cojp.specs.declared.configuration.Configuration.{Configuration}
use Rattle.cojp.specs.declared.parameter.Parameter.{Parameter}
use Rattle.cojp.specs.declared.parameter.Parameter.TheVariants as name
use Rattle.cojp.specs.declared.disposition.Disposition.TheVariants.{Taken, Discarded}
use Rattle.cojp.specs.declared.request.RequestState.{RequestState}
use Rattle.cojp.specs.declared.request.JoinRequest.{JoinRequest}
use Rattle.cojp.specs.declared.request.RequestRead.{RequestRead}
use Rattle.protocol_version.specs.declared.Version.{Version}
use Rattle.protocol_version.specs.declared.Version.TheVariants.{Draft, Published}
use Rattle.cojp.specs.declared.walk.LabelStatus.{LabelStatus}
use Rattle.cojp.specs.declared.walk.LabelStatus.TheVariants.{Unknown, First, Repeated}

-- an answer to LOOSE or to what the ordinary reading says
answers : {A B : Type 0} (f : A → B) (c : Bool) (x y : A) → f (cond c x y) ≡ cond c (f x) (f y)
answers f true x y = refl
answers f false x y = refl

module _ (laws : ItemLaws) {S : Type 0} (F : Form S) (c : S) where
  payload-strict : (s : List ℕ) → payload_read_by F strict_heading c s ≡ cond (meets_longer s) (refused Loose) (payload_read F c s)
  unfolding payload_read_by
  payload-strict s = rw (laws.strict s) (go (ltb 256 (length s)) (loose_payload s))
    where
      go : (l b : Bool)
          → cond l (refused Long) (scanned_read F c (cond b (decode.refused Loose) (payload s)))
          ≡ cond (cond l false b) (refused Loose) (cond l (refused Long) (scanned_read F c (payload s)))
      go true b = refl
      go false true = refl
      go false false = refl

-- ---- the ordinary readings are never LOOSE: the scan is not, and no other refusal of theirs is this one
abbrev Firm : {A : Type 0} → Reading A → Type 0
Firm (refused k) = k ≡ Loose → ⊥
Firm (read a) = Unit {0}

another : (k : Refusal) → number_of k ≤ 16 → k ≡ Loose → ⊥
another k h e = let l : number_of Loose ≤ 16 = rw e at h in omega (arith, l)

firm-onward : {A B : Type 0} (r : Reading A) (f : A → Reading B) → Firm r → ((a : A) → Firm (f a)) → Firm (bind r f)
firm-onward (refused k) f h g = h
firm-onward (read a) f h g = g a

firm-put : {A B : Type 0} (f : A → B) (r : Reading A) → Firm r → Firm (map_reading f r)
firm-put f (refused k) h = h
firm-put f (read a) h = tt

firm-cond : {A : Type 0} (b : Bool) (x y : Reading A) → Firm x → Firm y → Firm (cond b x y)
firm-cond true x y h g = h
firm-cond false x y h g = g

firm-concluded : {A P : Type 0} (o : Reading P) (take : A → P) (j : Judgement A) → Firm o → Firm (concluded o take j)
firm-concluded o take broken h = another «Type» (omega arith)
firm-concluded o take unfit h = h
firm-concluded o take (good a) h = tt

module _ {S : Type 0} (F : Form S) (taking : (s : S) (n : ℕ) (v : View) → Firm (F.taking s n v)) where
  known-firm : (t : LabelStatus) (s : S) (n : ℕ) (v : View) → Firm (known_read F t s n v)
  known-firm Unknown s n v = tt
  known-firm First s n v = taking s n v
  known-firm Repeated s n v = another Twice (omega arith)

  pair-firm : (s : S) (l : Label) (v : View) → Firm (pair_read F s l v)
  pair-firm s label.NoInteger v = another «Type» (omega arith)
  pair-firm s label.Negative v = tt
  pair-firm s (label.Number n) v = known-firm (F.standing s n) s n v

  pairs-firm : (ps : Pairs) (s : S) → Firm (pairs_read F s ps)
  pairs-firm empty s = tt
  pairs-firm (pair k v ps) s =
      firm-onward (pair_read F s (label_of k) (view_of v)) (λ t. pairs_read F t ps) (pair-firm s (label_of k) (view_of v))
      (λ t. pairs-firm ps t)

  map-firm : (i : Item) (s : S) → Firm (map_read F s i)
  map-firm (map_item ps) s = pairs-firm ps s
  map-firm (unsigned n) s = another «Type» (omega arith)
  map-firm (negative n) s = another «Type» (omega arith)
  map-firm (bytes b) s = another «Type» (omega arith)
  map-firm (text b) s = another «Type» (omega arith)
  map-firm (array is) s = another «Type» (omega arith)
  map-firm (tag n i) s = another «Type» (omega arith)
  map-firm (simple n) s = another «Type» (omega arith)
  map-firm (float w n) s = another «Type» (omega arith)

  scanned-firm : (o : Outcome Item) (s : S) → (o ≡ decode.refused Loose → ⊥) → Firm (scanned_read F s o)
  scanned-firm (decode.refused k) s h = λ e. h (ap decode.refused e)
  scanned-firm (decode.got i t) s h = map-firm i s

  payload-firm : ItemLaws → (s : S) (p : List ℕ) → Firm (payload_read F s p)
  unfolding payload_read_by
  payload-firm laws s p =
      firm-cond (ltb 256 (length p)) (refused Long) (scanned_read F s (payload p)) (another Long (omega arith))
      (scanned-firm (payload p) s (laws.never-loose p))

octets-firm : (least : ℕ) (v : View) → Firm (octets_read least v)
octets-firm least v = firm-concluded (read (no_octets_parameter Discarded)) (octets_parameter Taken) (octets_judged least v) tt

following-firm : {P : Type 0} (v : Version) (bad : P) (r : Reading P) → Firm r → Firm (by_version_of v bad r)
following-firm Draft bad r h = h
following-firm Published bad r h = tt

role-firm : (v : Version) (g : RequestState) (j : Judgement ℕ) → Firm (role_gathered v g j)
role-firm Draft g j = firm-put (with_role g) (role_concluded j) (firm-concluded (refused Role) (λ n. n) j (another Role (omega arith)))
role-firm Published g broken = tt
role-firm Published g unfit = tt
role-firm Published g (good n) = tt

request-taking : (v : Version) (g : RequestState) (n : ℕ) (x : View) → Firm (request_taking v g n x)
unfolding request_taking
request-taking v g n x =
    let none = no_octets_parameter Discarded in
    firm-cond (eqb n 1) _ _ (role-firm v g (role_judged x))
    (firm-cond (eqb n 5) _ _
    (firm-put (with_identifier g) (by_version_of v none (octets_read 0 x)) (following-firm v none (octets_read 0 x) (octets-firm 0 x))) tt)

parameter-firm : (v : Version) (c : Configuration) (p : Parameter) (x : View) → Firm (taking_for v c p x)
parameter-firm v c name.Keys x =
    let none = no_keys_parameter Discarded in
    let r = keys_read_as (allows_additional_info v) x in
    firm-put (with_keys c) (by_version_of v none r)
    (following-firm v none r
    (firm-concluded (refused Keys) (keys_parameter Taken) (keys_judged_as (allows_additional_info v) x) (another Keys (omega arith))))
parameter-firm v c name.Address x =
    let none = no_address_parameter Discarded in
    let r = address_read x in
    firm-put (with_address c) (by_version_of v none r)
    (following-firm v none r (firm-concluded (read none) (address_parameter Taken) (address_judged x) tt))
parameter-firm v c name.Jrc x =
    let none = no_octets_parameter Discarded in
    firm-put (with_jrc c) (by_version_of v none (octets_read 16 x)) (following-firm v none (octets_read 16 x) (octets-firm 16 x))
parameter-firm v c name.Network x = firm-put (with_network c) (octets_read 0 x) (octets-firm 0 x)
parameter-firm v c name.Prefix x = firm-put (with_prefix c) (octets_read 0 x) (octets-firm 0 x)
parameter-firm v c name.Blacklist x = tt
parameter-firm v c name.Rate x = tt
parameter-firm v c name.Unknown x = tt

configuration-taking : (v : Version) (c : Configuration) (n : ℕ) (x : View) → Firm (configuration_taking v c n x)
unfolding configuration_taking
configuration-taking v c n x =
    firm-put (noted v n) (taking_for v c (parameter_of v n) x) (parameter-firm v c (parameter_of v n) x)

request-never : (r : Reading JoinRequest) → Firm r → (request_answer r).verdict ≡ Err Loose → ⊥
request-never (refused k) h e = h cc
request-never (read q) h e = let z : ◌≡◌ {A = ℕ} 0 1 = cc in omega arith

configuration-never : (r : Reading Configuration) → Firm r → (configuration_answer r).verdict ≡ Err Loose → ⊥
configuration-never (refused k) h e = h cc
configuration-never (read c) h e = let z : ◌≡◌ {A = ℕ} 0 1 = cc in omega arith

settled-firm : (v : Version) (g : RequestState) → Firm (settled v g)
settled-firm v g =
    firm-cond (owing v g.request.role g.request.network.disposition) (refused Owed) (read g.request)
    (another Owed (omega arith)) tt

-- the answer to a request after its last pair
answered : Version → Reading RequestState → RequestRead
answered v x = request_answer (bind x (settled v))

pub strict-readers : ItemLaws → StrictReaders
unfolding answered
strict-readers laws = record {
  request = λ v s.
      ap (answered v) (payload-strict laws (request_form v) empty_request_state s)
      ∙ answers (answered v) (meets_longer s) (refused Loose) (payload_read (request_form v) empty_request_state s);
  configuration = λ v s.
      ap configuration_answer (payload-strict laws (configuration_form v) empty_configuration s)
      ∙ answers configuration_answer (meets_longer s) (refused Loose) (payload_read (configuration_form v) empty_configuration s);
  ordinary-request = λ v s.
      let r = payload_read (request_form v) empty_request_state s in
      request-never (bind r (settled v))
      (firm-onward r (settled v) (payload-firm (request_form v) (request-taking v) laws empty_request_state s) (settled-firm v));
  ordinary-configuration = λ v s.
      configuration-never (payload_read (configuration_form v) empty_configuration s)
      (payload-firm (configuration_form v) (configuration-taking v) laws empty_configuration s);
}
