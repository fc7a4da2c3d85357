-- What is in range takes few bytes and few levels, and its numbers fit their heads.
use Prim.Native.Nat.{ℕ, suc, ◌+◌, ◌*◌, ◌^◌, ◌≤◌, ◌<◌}
use mathlib.Core.Path.{◌≡◌, refl, ap}
use mathlib.Core.Bool.{Bool, true, false, cond}
use mathlib.Core.List.{List, [], ◌∷◌, append-nil, Memᴰ}
use native.Mathlib.Omega.{arith}
use borrow.Author.Tests.{leb-true, eqb-true}
use lib.Dec.{leb, eqb}
use lib.ListN.{length, length-append, length-take}
use Rattle.cbor.specs.Encode.{extra_of, shortest, encode, encodes, encode_pairs}
use Rattle.cbor.specs.HeadLaws.{HeadLaws}
use Rattle.cbor.specs.Item.{Item, Items, Pairs, unsigned, bytes, array, no_items, more}
use Rattle.cbor.specs.Item.{empty, pair, count, count_pairs, depth, depths, depth_pairs}
use Rattle.cbor.specs.Item.{Fit, Fits, FitPairs}
use Rattle.link_key.specs.AdditionalInfo.{additional_info_bytes}
use Rattle.link_key.specs.Key.{valid_key}
use Rattle.link_key.specs.set.KeyLaws.{KeyLaws}
use Rattle.link_key.specs.set.KeySet.{keys_of}
use Rattle.link_key.specs.declared.Key.{Key}
use Rattle.link_key.specs.declared.additional_info.AdditionalInfo.{AdditionalInfo}
use Rattle.link_key.specs.declared.additional_info.AdditionalInfo.TheVariants as info
use Rattle.cojp.specs.Octets.{bytes_in}
use Rattle.cojp.specs.Reading.{if_taken}
use Rattle.protocol_version.specs.Version.{by_version}
use Rattle.cojp.specs.Writing.{join, chain, labelled, role_pairs, octets_pairs, lease_items, address_pairs}
use Rattle.cojp.specs.Writing.{usage_items, additional_info_items, group_items, groups_items, keys_pairs, rate_pairs}
use Rattle.cojp.specs.Writing.{octets_in_range, jrc_in_range, keys_in_range, missing}
use Rattle.cojp.specs.declared.address.AddressParameter.{AddressParameter}
use Rattle.cojp.specs.declared.key_set.KeysParameter.{KeysParameter}
use Rattle.cojp.specs.declared.octets.OctetsParameter.{OctetsParameter}
use Rattle.cojp.specs.declared.rate.RateParameter.{RateParameter}
use Rattle.cojp.specs.declared.disposition.Disposition.{Disposition}
use Rattle.cojp.specs.declared.disposition.Disposition.TheVariants.{Absent, Taken, Discarded}
use Rattle.protocol_version.specs.declared.Version.{Version}
use Rattle.protocol_version.specs.declared.Version.TheVariants.{Draft, Published}
use Rattle.cojp.specs.WritingLemmas.{join-count, join-length, chain-count, chain_length}
use Rattle.cojp_write.proofs.octets.Joined.{labelled-length, array-length}
use Rattle.cojp_write.proofs.octets.Strings.{string-length}
use Rattle.cojp_laws.proofs.Forms.{not_taken, Fitting}

-- ---- at most k members in at most m bytes
pub record Fine (ps : Pairs) (k m : ℕ) : Type 0 where
  pub few : count_pairs ps ≤ k
  pub small : length (encode_pairs ps) ≤ m
  pub level : depth_pairs ps ≤ 2
  pub fit : FitPairs ps

pub record FineItems (is : Items) (k m : ℕ) : Type 0 where
  pub few : count is ≤ k
  pub small : length (encodes is) ≤ m
  pub level : depths is ≤ 1
  pub fit : Fits is

fit-join : (a b : Pairs) → FitPairs a → FitPairs b → FitPairs (join a b)
fit-join empty b f g = g
fit-join (pair k v a) b f g = (f.0, f.1, fit-join a b f.2 g)

level-join : (a b : Pairs) → depth_pairs a ≤ 2 → depth_pairs b ≤ 2 → depth_pairs (join a b) ≤ 2
level-join empty b f g = g
level-join (pair k v a) b f g = omega (arith, level-join a b (omega arith) g)

pub fine-join : {a b : Pairs} {k l m n : ℕ} → Fine a k m → Fine b l n → Fine (join a b) (k + l) (m + n)
fine-join {a} {b} f g = record {
  few = omega (arith, join-count a b, f.few, g.few);
  small = omega (arith, join-length a b, f.small, g.small);
  level = level-join a b f.level g.level;
  fit = fit-join a b f.fit g.fit;
}

fit-chain : (a b : Items) → Fits a → Fits b → Fits (chain a b)
fit-chain no_items b f g = g
fit-chain (more i a) b f g = (f.0, fit-chain a b f.1 g)

level-chain : (a b : Items) → depths a ≤ 1 → depths b ≤ 1 → depths (chain a b) ≤ 1
level-chain no_items b f g = g
level-chain (more i a) b f g = omega (arith, level-chain a b (omega arith) g)

fine-chain : {a b : Items} {k l m n : ℕ} → FineItems a k m → FineItems b l n → FineItems (chain a b) (k + l) (m + n)
fine-chain {a} {b} f g = record {
  few = omega (arith, chain-count a b, f.few, g.few);
  small = omega (arith, chain_length a b, f.small, g.small);
  level = level-chain a b f.level g.level;
  fit = fit-chain a b f.fit g.fit;
}

-- the bytes of n groups of keys that may have additional information, or have none
abbrev pub groups_room : Bool → ℕ → ℕ
groups_room true n = 29 * n
groups_room false n = 20 * n

one_more : (b : Bool) (n : ℕ) → 20 + cond b 9 0 + groups_room b n ≤ groups_room b (suc n)
one_more true n = omega arith
one_more false n = omega arith

eight-most : (b : Bool) (n : ℕ) → n ≤ 8 → groups_room b n ≤ groups_room b 8
eight-most true n h = omega arith
eight-most false n h = omega arith

-- ---- single values
fine-item : (i : Item) (m : ℕ) → length (encode i) ≤ m → depth i ≤ 1 → Fit i → FineItems (more i no_items) 1 m
fine-item i m h l f =
    record { few = omega arith; small = omega (arith, ap length (append-nil (encode i))); level = omega arith; fit = (f, tt) }

fine-missing : (m : ℕ) → FineItems no_items 1 m
fine-missing m = record { few = omega arith; small = omega arith; level = omega arith; fit = tt }

-- a parameter that may not be taken
pub fine-if : (r : Disposition) (ps : Pairs) (m : ℕ) → (r ≡ Taken → Fine ps 1 m) → Fine (if_taken r ps empty) 1 m
fine-if Absent ps m f = record { few = omega arith; small = omega arith; level = omega arith; fit = tt }
fine-if Taken ps m f = f refl
fine-if Discarded ps m f = record { few = omega arith; small = omega arith; level = omega arith; fit = tt }

-- one of the other form is missing
pub fine-none : (r : Disposition) (ps : Pairs) → missing r ≡ true → Fine (if_taken r ps empty) 1 0
fine-none r ps h = fine-if r ps 0 (λ e. absurd (not_taken r h e))

-- a taken one has as many bytes as it says, or fewer
pub octets-few : (p : OctetsParameter) → octets_in_range p ≡ true → p.disposition ≡ Taken → p.value.len ≤ 16
octets-few p h e = leb-true p.value.len 16 (simp e at h)

jrc-octets : (r : Disposition) (n : ℕ) → if_taken r (eqb n 16) true ≡ true → if_taken r (leb n 16) true ≡ true
jrc-octets Absent n h = refl
jrc-octets Taken n h = rw (eqb-true n 16 h)
jrc-octets Discarded n h = refl

pub jrc-in-range : (p : OctetsParameter) → jrc_in_range p ≡ true → octets_in_range p ≡ true
jrc-in-range p h = jrc-octets p.disposition p.value.len h

module _ (heads : HeadLaws) where
  fine-labelled : (n : ℕ) (i : Item) (m : ℕ) → n ≤ 23 → length (encode i) ≤ m → depth i ≤ 2 → Fit i → Fine (labelled n i) 1 (1 + m)
  fine-labelled n i m h s l f = record {
    few = omega arith;
    small = omega (arith, labelled-length n i, heads.short-head 0 n h);
    level = omega arith;
    fit = (omega arith, f, tt);
  }

  -- ---- byte strings
  pub fine-octets : (n : ℕ) (p : OctetsParameter) → n ≤ 23 → octets_in_range p ≡ true → Fine (octets_pairs n p) 1 18
  fine-octets n p l h = fine-if p.disposition (labelled n (bytes (bytes_in p.value))) 18 (λ e.
      let s = bytes_in p.value in
      let k : length s ≤ 16 = omega (arith, octets-few p h e, length-take p.value.len p.value.bytes) in
      fine-labelled n (bytes s) 17 l (omega (arith, string-length heads s (omega arith))) (omega arith) (omega arith))

  -- ---- the role
  pub fine-role : (n : ℕ) → n ≤ 1 → Fine (role_pairs n) 1 2
  fine-role n h = go (eqb n 0)
    where
      go : (b : Bool) → Fine (cond b empty (labelled 1 (unsigned n))) 1 2
      go true = record { few = omega arith; small = omega arith; level = omega arith; fit = tt }
      go false =
          fine-labelled 1 (unsigned n) 1 (omega arith) (omega (arith, heads.short-head 0 n (omega arith))) (omega arith) (omega arith)

  -- ---- arrays, with a head of at most j bytes
  pub fine-array : (n : ℕ) (is : Items) (k m j : ℕ) → n ≤ 23 → k ≤ 65535 → length (shortest 4 (count is)) ≤ j → FineItems is k m
      → Fine (labelled n (array is)) 1 (1 + j + m)
  fine-array n is k m j h c l f = record {
    few = omega arith;
    small = omega (arith, array-length n is, length-append (shortest 0 n) (shortest 4 (count is)), heads.short-head 0 n h, f.small);
    level = omega (arith, f.level);
    fit = (omega arith, (omega (arith, f.few), f.fit), tt);
  }

  -- ---- short addresses
  fine-lease : (b : Bool) (n : ℕ) → n < 2 ^ 64 → FineItems (lease_items b n) 1 9
  fine-lease true n h = fine-item (unsigned n) 9 (omega (arith, heads.length-head 0 n, heads.extra-most n)) (omega arith) h
  fine-lease false n h = fine-missing 9

  pub fine-address : (p : AddressParameter) → length p.value.bytes ≡ 2 → p.value.lease < 2 ^ 64 → Fine (address_pairs p) 1 14
  fine-address p two l =
      let s = p.value.bytes in
      let lease = lease_items p.value.leased p.value.lease in
      let is = more (bytes s) lease in
      fine-if p.disposition (labelled 3 (array is)) 14 (λ e.
      let front = fine-item (bytes s) 3 (omega (arith, string-length heads s (omega arith))) (omega arith) (omega arith) in
      let f = fine-chain front (fine-lease p.value.leased p.value.lease l) in
      fine-array 3 is 2 12 1 (omega arith) (omega arith) (omega (arith, heads.short-head 4 (count is) (omega (arith, f.few)))) f)

  -- ---- key sets
  fine-usage : (u : ℕ) → u ≤ 14 → FineItems (usage_items u) 1 1
  fine-usage u h = go (eqb u 0)
    where
      go : (b : Bool) → FineItems (cond b no_items (more (unsigned u) no_items)) 1 1
      go true = fine-missing 1
      go false = fine-item (unsigned u) 1 (omega (arith, heads.short-head 0 u (omega arith))) (omega arith) (omega arith)

  fine-info : (b : Bool) (n : AdditionalInfo) → Fitting b n → FineItems (additional_info_items n) 1 (cond b 9 0)
  fine-info b info.Absent f = fine-missing (cond b 9 0)
  fine-info true (info.Four p q r t) f =
      let s = additional_info_bytes (info.Four p q r t) in
      fine-item (bytes s) 9 (omega (arith, string-length heads s (omega arith))) (omega arith) (omega arith)
  fine-info true (info.Eight p q r t u v w x) f =
      let s = additional_info_bytes (info.Eight p q r t u v w x) in
      fine-item (bytes s) 9 (omega (arith, string-length heads s (omega arith))) (omega arith) (omega arith)
  fine-info false (info.Four p q r t) f = absurd (let z : ◌≡◌ {A = ℕ} 0 1 = cc in omega arith)
  fine-info false (info.Eight p q r t u v w x) f = absurd (let z : ◌≡◌ {A = ℕ} 0 1 = cc in omega arith)

  -- ---- join rates
  pub fine-rate : (v : Version) (p : RateParameter) → by_version v (missing p.disposition) true ≡ true → p.value < 2 ^ 64
      → Fine (rate_pairs p) 1 (by_version v 0 10)
  fine-rate Draft p h l = fine-none p.disposition (labelled 7 (unsigned p.value)) h
  fine-rate Published p h l = fine-if p.disposition (labelled 7 (unsigned p.value)) 10 (λ e.
      fine-labelled 7 (unsigned p.value) 9 (omega arith) (omega (arith, heads.length-head 0 p.value, heads.extra-most p.value))
      (omega arith) l)

  module _ (keys : KeyLaws) (b : Bool) where
    fine-group : (k : Key) → valid_key k ≡ true → Fitting b k.info → FineItems (group_items k) 4 (20 + cond b 9 0)
    fine-group k h g =
        let (i, u, v) = keys.limits-fit k h in
        let head : extra_of k.identifier ≤ 1 = heads.byte-head k.identifier i in
        let name =
        fine-item (unsigned k.identifier) 2 (omega (arith, heads.length-head 0 k.identifier)) (omega arith) (omega arith) in
        let value =
        fine-item (bytes k.value) 17 (omega (arith, string-length heads k.value (omega arith))) (omega arith) (omega arith) in
        let f = fine-chain (fine-chain name (fine-usage k.usage u)) (fine-chain value (fine-info b k.info g)) in
        record { few = f.few; small = omega (arith, f.small); level = f.level; fit = f.fit }

    fine-groups : (ks : List Key) → ((k : Key) → Memᴰ k ks → valid_key k ≡ true) → ((k : Key) → Memᴰ k ks → Fitting b k.info)
        → FineItems (groups_items ks) (4 * length ks) (groups_room b (length ks))
    fine-groups [] h g = record { few = omega arith; small = omega arith; level = omega arith; fit = tt }
    fine-groups (k ∷ ks) h g =
        let first : Memᴰ k (k ∷ ks) = mathlib.Core.List.Memᴰ.head refl in
        let f = fine-chain (fine-group k (h k first) (g k first))
        (fine-groups ks (λ l m. h l (mathlib.Core.List.Memᴰ.tail m)) (λ l m. g l (mathlib.Core.List.Memᴰ.tail m))) in
        let small : length (encodes (groups_items (k ∷ ks))) ≤ groups_room b (suc (length ks)) =
        omega (arith, f.small, one_more b (length ks)) in
        record { few = omega (arith, f.few); small = small; level = f.level; fit = f.fit }

    pub fine-keys : (p : KeysParameter) → keys_in_range p ≡ true
        → (p.disposition ≡ Taken → (k : Key) → Memᴰ k (keys_of p.value) → Fitting b k.info)
        → Fine (keys_pairs p) 1 (3 + groups_room b 8)
    fine-keys p h g =
        let ks = keys_of p.value in
        let is = groups_items ks in
        let m = groups_room b 8 in
        fine-if p.disposition (labelled 2 (array is)) (3 + m) (λ e.
        let ok = (keys.valid-set p.value (simp e at h)).1 in
        let f = fine-groups ks (keys.valid-each ks ok) (g e) in
        let eight = keys.valid-few ks ok in
        let i : FineItems is 32 m = record {
          few = omega (arith, f.few);
          small = omega (arith, f.small, eight-most b (length ks) eight);
          level = f.level;
          fit = f.fit;
        } in
        let head = heads.byte-head (count is) (omega (arith, i.few)) in
        fine-array 2 is 32 m 2 (omega arith) (omega arith) (omega (arith, heads.length-head 4 (count is))) i)
