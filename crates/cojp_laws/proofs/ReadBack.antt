-- What is written of each parameter is read as that parameter, and a map's pairs one after the other.
use Prim.Native.Nat.{ℕ, ◌≤◌}
use mathlib.Core.Path.{◌≡◌, refl, ap, ◌∙◌}
use mathlib.Core.Bool.{Bool, true, false, cond}
use mathlib.Core.List.{List, [], ◌∷◌, Memᴰ}
use mathlib.Core.Option.{Option, none, some}
use native.Mathlib.Omega.{arith}
use borrow.Author.Tests.{le-ltb, le-leb, eqb-true}
use lib.Dec.{eqb}
use lib.ListN.{length, length-take}
use lib.Seq.{take-append_seam, length-take-le}
use Rattle.cbor.specs.Encode.{encode}
use Rattle.cbor.specs.Item.{Item, Items, Pairs, bytes, array, map_item, more, empty, pair}
use Rattle.cbor.specs.View.{Scalar, string, scalar, label_of, view_of, scalars_of}
use Rattle.cbor.specs.declared.value.Label.TheVariants as label
use Rattle.cbor.specs.Laws.{ItemLaws}
use Rattle.cbor.specs.Strict.{head_by}
use Rattle.link_key.specs.set.KeySet.{keys_of}
use Rattle.link_key.specs.declared.Key.{Key}
use Rattle.link_key.specs.declared.additional_info.AdditionalInfo.{AdditionalInfo}
use Rattle.link_key.specs.declared.additional_info.AdditionalInfo.TheVariants as info
use Rattle.link_key.specs.set.KeyLaws.{KeyLaws}
use Rattle.short_address.specs.Address.{is_address}
use Rattle.cojp.specs.Address.{address_of, address_parameter, no_address_parameter, address_in, address_read}
use Rattle.cojp.specs.KeySet.{key_set_of, keys_parameter, no_keys_parameter, group, further, groups, valued, groups_of, keys_read_as}
use Rattle.cojp.specs.Lists.{Picked, in_array, fitting, list_answer, list_parameter}
use Rattle.cojp.specs.Lists.{no_list_parameter, list_taken, kept, items_in, bytes_in as bytes_of}
use Rattle.cojp_laws.specs.RoundTrip.{Kept}
use Rattle.cojp.specs.Octets.{bytes_in, padded, octets_of, octets_parameter, no_octets_parameter, octets_judged, octets_read}
use Rattle.cojp.specs.Rate.{rate_parameter, no_rate_parameter}
use Rattle.cojp.specs.Reading.{Reading, refused, read, bind, by_version_of, if_taken}
use Rattle.cojp.specs.Same.{octets_taken, lease_of, address_taken, keys_taken, list_taken as took_list, rate_taken as took_rate}
use Rattle.cojp.specs.Walk.{Form, pair_read, pairs_read, payload_read_by}
use Rattle.cojp.specs.Writing.{join, chain, labelled, lease_items, additional_info_items, groups_items}
use Rattle.cojp.specs.Writing.{octets_in_range, jrc_in_range, address_in_range, keys_in_range}
use Rattle.cojp.specs.declared.address.AddressParameter.{AddressParameter}
use Rattle.cojp.specs.declared.address.ShortAddress.{ShortAddress}
use Rattle.cojp.specs.declared.key_set.KeysParameter.{KeysParameter}
use Rattle.cojp.specs.declared.list.ItemList.{ItemList}
use Rattle.cojp.specs.declared.list.ListParameter.{ListParameter}
use Rattle.cojp.specs.declared.list.ListRead.{ListRead}
use Rattle.cojp.specs.declared.octets.OctetsParameter.{OctetsParameter}
use Rattle.cojp.specs.declared.rate.RateParameter.{RateParameter}
use Rattle.cojp.specs.declared.disposition.Disposition.{Disposition}
use Rattle.cojp.specs.declared.disposition.Disposition.TheVariants.{Absent, Taken, Discarded}
use Rattle.protocol_version.specs.declared.Version.{Version}
use Rattle.protocol_version.specs.declared.Version.TheVariants.{Draft, Published}
use Rattle.cojp_list.specs.Laws.{ListRoundTrip}
use Rattle.cojp_laws.proofs.Fine.{Fine, octets-few}
use Rattle.cojp_laws.proofs.Forms.{Fitting}

-- ---- pairs one after the other
module _ {S : Type 0} (F : Form S) where
  after : (a b : Pairs) (r : Reading S) → ((t : S) → pairs_read F t (join a b) ≡ bind (pairs_read F t a) (λ u. pairs_read F u b))
      → bind r (λ t. pairs_read F t (join a b)) ≡ bind (bind r (λ t. pairs_read F t a)) (λ u. pairs_read F u b)
  after a b (refused k) h = refl
  after a b (read t) h = h t

  pairs-join : (a b : Pairs) (s : S) → pairs_read F s (join a b) ≡ bind (pairs_read F s a) (λ t. pairs_read F t b)
  pairs-join empty b s = refl
  pairs-join (pair k v a) b s = after a b (pair_read F s (label_of k) (view_of v)) (λ t. pairs-join a b t)

  pub then : (a b : Pairs) (s t u : S) → pairs_read F s a ≡ read t → pairs_read F t b ≡ read u → pairs_read F s (join a b) ≡ read u
  then a b s t u e f = pairs-join a b s ∙ rw e f

  -- a parameter, where its label was not seen before; what else changes where it is taken is `held`, which becomes `moved`
  pub parameter-read : {P Q : Type 0} (s : S) (n : ℕ) (r : Disposition) (v : Item) (set : P → Q → S) (back left : P) (moved held : Q)
      → s ≡ set left held → (r ≡ Taken → pair_read F s (label.Number n) (view_of v) ≡ read (set back moved))
      → pairs_read F s (if_taken r (labelled n v) empty) ≡ read (set (if_taken r back left) (if_taken r moved held))
  parameter-read s n Absent v set back left moved held e g = ap read e
  parameter-read s n Taken v set back left moved held e g = rw (g refl)
  parameter-read s n Discarded v set back left moved held e g = ap read e

  -- the payload
  pub payload-read : ItemLaws → (b : Bool) (ps : Pairs) (s : S) {k m : ℕ} → Fine ps k m → k ≤ 23 → length (encode (map_item ps)) ≤ 256
      → payload_read_by F (head_by b) s (encode (map_item ps)) ≡ pairs_read F s ps
  unfolding payload_read_by
  payload-read laws b ps s f h n =
      rw (
        le-ltb 256 (length (encode (map_item ps))) n,
        laws.payload-round-trip b (map_item ps) (omega (arith, f.level)) (omega (arith, f.few), f.fit),
      )

-- what is good is taken in both forms
pub following-good : {P : Type 0} (v : Version) (bad p : P) (r : Reading P) → r ≡ read p → by_version_of v bad r ≡ read p
following-good Draft bad p r e = e
following-good Published bad p r e = rw e

-- ---- what a taken parameter reads back as, and that it is the same and not discarded
pub kept_if : {P : Type 0} (report : P → Disposition) (a b : P) (r : Disposition) → report a ≡ Taken → report b ≡ Absent
    → Kept (report (if_taken r a b))
kept_if report a b Absent e f h = let z : ◌≡◌ {A = ℕ} 0 1 = cc in omega arith
kept_if report a b Taken e f h = let z : ◌≡◌ {A = ℕ} 0 1 = cc in omega arith
kept_if report a b Discarded e f h = let z : ◌≡◌ {A = ℕ} 0 1 = cc in omega arith

same_if : {P A : Type 0} (taken : P → Option A) (a b : P) (x : A) (r : Disposition) → (r ≡ Taken → taken a ≡ some x) → taken b ≡ none
    → taken (if_taken r a b) ≡ if_taken r (some x) none
same_if taken a b x Absent e f = f
same_if taken a b x Taken e f = e refl
same_if taken a b x Discarded e f = f

-- ---- byte strings
abbrev pub octets_good : OctetsParameter → OctetsParameter
octets_good p = octets_parameter Taken (octets_of (bytes_in p.value))

abbrev pub octets_back : OctetsParameter → OctetsParameter
octets_back p = if_taken p.disposition (octets_good p) (no_octets_parameter Absent)

octets-read : (least : ℕ) (s : List ℕ) → least ≤ length s → length s ≤ 16
    → octets_read least (scalar (string s)) ≡ read (octets_parameter Taken (octets_of s))
unfolding octets_judged
octets-read least s h l = rw (le-leb least (length s) h, le-leb (length s) 16 l)

pub octets-back : (p : OctetsParameter) → octets_in_range p ≡ true → p.disposition ≡ Taken
    → octets_read 0 (scalar (string (bytes_in p.value))) ≡ read (octets_good p)
octets-back p h e =
    octets-read 0 (bytes_in p.value) (omega arith) (omega (arith, octets-few p h e, length-take p.value.len p.value.bytes))

pub jrc-back : (p : OctetsParameter) → jrc_in_range p ≡ true → length p.value.bytes ≡ 16 → p.disposition ≡ Taken
    → octets_read 16 (scalar (string (bytes_in p.value))) ≡ read (octets_good p)
jrc-back p h l e =
    let n : p.value.len ≡ 16 = eqb-true p.value.len 16 (simp e at h) in
    let k : length (bytes_in p.value) ≡ 16 = length-take-le p.value.len p.value.bytes (omega arith) ∙ n in
    octets-read 16 (bytes_in p.value) (omega arith) (omega arith)

padded-bytes : (s : List ℕ) → bytes_in (octets_of s) ≡ s
unfolding padded
padded-bytes s = take-append_seam s _

pub octets-same : (p : OctetsParameter) → octets_taken (octets_back p) ≡ octets_taken p
octets-same p = same_if octets_taken (octets_good p) (no_octets_parameter Absent) (bytes_in p.value) p.disposition
    (λ t. ap some (padded-bytes (bytes_in p.value))) refl

-- ---- short addresses
-- the members of its array
abbrev pub address_items : ShortAddress → Items
address_items a = more (bytes a.bytes) (lease_items a.leased a.lease)

-- a lease that is not written reads back as 0
abbrev pub address_good : AddressParameter → AddressParameter
address_good p = address_parameter Taken (address_of p.value.bytes p.value.leased (cond p.value.leased p.value.lease 0))

abbrev pub address_back : AddressParameter → AddressParameter
address_back p = if_taken p.disposition (address_good p) (no_address_parameter Absent)

address_read_lem : (s : List ℕ) (b : Bool) (n : ℕ) → is_address s ≡ true
    → address_read (view_of (array (more (bytes s) (lease_items b n)))) ≡ read (address_parameter Taken (address_of s b (cond b n 0)))
unfolding address_in
address_read_lem s true n h = rw h
address_read_lem s false n h = rw h

pub address-back : (p : AddressParameter) → address_in_range p ≡ true → p.disposition ≡ Taken
    → address_read (view_of (array (address_items p.value))) ≡ read (address_good p)
address-back p h e = address_read_lem p.value.bytes p.value.leased p.value.lease (simp e at h)

lease-same : (s : List ℕ) (b : Bool) (n : ℕ) → lease_of (address_of s b (cond b n 0)) ≡ lease_of (address_of s b n)
lease-same s true n = refl
lease-same s false n = refl

pub address_same : (p : AddressParameter) → address_taken (address_back p) ≡ address_taken p
address_same p =
    let a = p.value in
    same_if address_taken (address_good p) (no_address_parameter Absent) (a.bytes, lease_of a) p.disposition
    (λ t. ap (λ (l : Option ℕ). some (a.bytes, l)) (lease-same a.bytes a.leased a.lease)) refl

-- ---- key sets
abbrev pub keys_good : KeysParameter → KeysParameter
keys_good p = keys_parameter Taken (key_set_of (keys_of p.value))

abbrev pub keys_back : KeysParameter → KeysParameter
keys_back p = if_taken p.disposition (keys_good p) (no_keys_parameter Absent)

-- what comes after a value: its additional information, and the groups that follow
module _ (b : Bool) (i u : ℕ) (s : List ℕ) where
  value-last : (ks : List Key)
      → valued b i u s (scalars_of (groups_items ks)) ≡ group i u s info.Absent (groups b (scalars_of (groups_items ks)))
  unfolding groups
  value-last [] = refl
  value-last (k ∷ ks) = refl

  info-read : (n : AdditionalInfo) (ks : List Key) → Fitting b n
      → valued b i u s (scalars_of (chain (additional_info_items n) (groups_items ks)))
      ≡ group i u s n (groups b (scalars_of (groups_items ks)))
  unfolding groups
  info-read info.Absent ks f = value-last ks
  info-read (info.Four p q r t) ks f = go b f
    where
      go : (c : Bool) → Fitting c (info.Four p q r t) → further c i u s (some (info.Four p q r t)) (groups b (scalars_of (groups_items ks)))
          ≡ group i u s (info.Four p q r t) (groups b (scalars_of (groups_items ks)))
      go true f = refl
      go false f = absurd (let z : ◌≡◌ {A = ℕ} 0 1 = cc in omega arith)
  info-read (info.Eight p q r t w x y z) ks f = go b f
    where
      go : (c : Bool) → Fitting c (info.Eight p q r t w x y z)
          → further c i u s (some (info.Eight p q r t w x y z)) (groups b (scalars_of (groups_items ks)))
          ≡ group i u s (info.Eight p q r t w x y z) (groups b (scalars_of (groups_items ks)))
      go true f = refl
      go false f = absurd (let z : ◌≡◌ {A = ℕ} 0 1 = cc in omega arith)

module _ (b : Bool) where
  group-read : (k : Key) (ks : List Key) (z : Bool) → eqb k.usage 0 ≡ z → Fitting b k.info
      → groups b (scalars_of (groups_items ks)) ≡ groups_of ks
      → groups b (scalars_of (groups_items (k ∷ ks))) ≡ groups_of (k ∷ ks)
  unfolding groups
  group-read k ks true e f h =
      let u : k.usage ≡ 0 = eqb-true k.usage 0 e in
      simp e (info-read b k.identifier 0 k.value k.info ks f ∙ rw (h, ← u))
  group-read k ks false e f h = simp e (info-read b k.identifier k.usage k.value k.info ks f ∙ rw h)

  groups-read : (ks : List Key) → ((k : Key) → Memᴰ k ks → Fitting b k.info) → groups b (scalars_of (groups_items ks)) ≡ groups_of ks
  unfolding groups
  groups-read [] f = refl
  groups-read (k ∷ ks) f =
      group-read k ks (eqb k.usage 0) refl (f k (Memᴰ.head refl)) (groups-read ks (λ l m. f l (Memᴰ.tail m)))

  pub keys-back : KeyLaws → (p : KeysParameter) → keys_in_range p ≡ true → ((k : Key) → Memᴰ k (keys_of p.value) → Fitting b k.info)
      → p.disposition ≡ Taken → keys_read_as b (view_of (array (groups_items (keys_of p.value)))) ≡ read (keys_good p)
  keys-back keys p h f e = rw (groups-read (keys_of p.value) f, (keys.valid-set p.value (simp e at h)).1)

pub keys-same : (p : KeysParameter) → keys_taken (keys_back p) ≡ keys_taken p
keys-same p =
    same_if keys_taken (keys_good p) (no_keys_parameter Absent) (keys_of p.value) p.disposition
    (λ t. ap some (take-append_seam (keys_of p.value) _)) refl

-- ---- lists that are kept
module _ (f : List Scalar → Picked) where
  -- what the array of a list is read as
  abbrev list_again : ItemList → ListRead
  list_again l = list_answer (fitting 253 (in_array f (view_of (array (items_in f l)))))

  abbrev pub list_good : ListParameter → ListParameter
  list_good p = list_parameter Taken (list_again p.value).value

  abbrev pub list_back : ListParameter → ListParameter
  list_back p = if_taken p.disposition (list_good p) (no_list_parameter Absent)

  module _ (law : ListRoundTrip f) (p : ListParameter) (h : p.disposition ≡ Taken → kept f p.value ≡ true) where
    pub list_back_lem : p.disposition ≡ Taken → list_taken (list_again p.value) ≡ list_good p
    list_back_lem e =
        let (r, a, g, n, s) = law p.value (h e) in
        rw (ap (λ (x : ListRead). x.good) a ∙ g)

    pub list_same : took_list (list_back p) ≡ took_list p
    list_same =
        let l = p.value in
        same_if took_list (list_good p) (no_list_parameter Absent) (l.count, bytes_of l) p.disposition (λ e.
        let (r, a, g, n, s) = law l (h e) in
        let count : (list_again l).value.count ≡ l.count = ap (λ (x : ListRead). x.value.count) a ∙ n in
        let bytes : bytes_of (list_again l).value ≡ bytes_of l = ap (λ (x : ListRead). bytes_of x.value) a ∙ s in
        rw (count, bytes)) refl

-- ---- join rates
abbrev pub rate_good : RateParameter → RateParameter
rate_good p = rate_parameter Taken p.value

abbrev pub rate_back : RateParameter → RateParameter
rate_back p = if_taken p.disposition (rate_good p) (no_rate_parameter Absent)

pub rate-same : (p : RateParameter) → took_rate (rate_back p) ≡ took_rate p
rate-same p = same_if took_rate (rate_good p) (no_rate_parameter Absent) p.value p.disposition (λ t. refl) refl
