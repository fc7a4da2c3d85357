-- A key set's groups, written and counted key by key.
use Prim.Native.Nat.{ℕ, ◌+◌, ◌*◌, ◌-◌, ◌≤◌, ◌<◌}
use mathlib.Core.Path.{◌≡◌, refl, ap, sym, ◌∙◌}
use mathlib.Core.Bool.{Bool, true, false, cond, not}
use mathlib.Core.List.{List, [], ◌∷◌, ◌++◌, append_assoc}
use native.Mathlib.Omega.{arith}
use native.Mathlib.Numerals.{add-one}
use lib.Dec.{eqb}
use lib.ListN.{length, take, drop, get_or, length-append, length-take, take-append-drop}
use lib.Seq.{take-suc, take_all}
use Rattle.std.proofs.lemmas.List.{take_min}
use Rattle.byte_io.specs.Write.{Wrote}
use Rattle.byte_io.specs.WriteLemmas.{seam}
use Rattle.cbor.specs.Encode.{shortest, encode, encodes, encode_pairs, extra_of}
use Rattle.cbor.specs.HeadLaws.{HeadLaws}
use Rattle.cbor.specs.Item.{Items, unsigned, bytes, array, no_items, more, empty, count}
use Rattle.link_key.specs.set.KeySet.{keys_of}
use Rattle.link_key.specs.declared.Key.{Key}
use Rattle.link_key.specs.declared.additional_info.AdditionalInfo.TheVariants.{Absent}
use Rattle.link_key.specs.declared.set.key_set.KeySet.{KeySet}
use Rattle.cojp.specs.Reading.{if_taken}
use Rattle.cojp.specs.Writing.{labelled, chain, lease_items, usage_items, additional_info_items, group_items, groups_items, keys_pairs}
use Rattle.cojp.specs.declared.key_set.KeysParameter.{KeysParameter}
use Rattle.cojp_write.specs.configuration.Room.{used_items, key_length, set_length}
use Rattle.cojp_write.specs.octets.Size.{ItemsSize, PairsSize, Sum}
use Rattle.cojp_write.specs.declared.octets.size.Size.{Size}
use Rattle.cojp.specs.WritingLemmas.{chain-bytes, chain-count, chain_length, chain-assoc, chain-none}
use Rattle.cojp_write.proofs.octets.Joined.{array-bytes}
use Rattle.cojp_write.proofs.octets.Strings.{string-length}
use Rattle.cojp_write.proofs.octets.Sizes.{sizes-chain}
use Rattle.cojp_write.proofs.range.Taken.{taken_is}

-- ---- one group
usage-items : (u : ℕ) → usage_items u ≡ used_items u
usage-items u = go (eqb u 0)
  where
    go : (b : Bool) → cond b no_items (more (unsigned u) no_items) ≡ lease_items (not b) u
    go true = refl
    go false = refl

module _ (k : Key) where
  abbrev front : List ℕ
  front = (shortest 0 k.identifier ++ encodes (used_items k.usage)) ++ encode (bytes k.value)

  group-bytes : encodes (group_items k) ≡ front ++ encodes (additional_info_items k.info)
  group-bytes =
      chain-bytes (more (unsigned k.identifier) (usage_items k.usage)) (more (bytes k.value) (additional_info_items k.info))
      ∙ rw (usage-items k.usage)
      (sym (append_assoc (shortest 0 k.identifier ++ encodes (used_items k.usage)) (encode (bytes k.value))
      (encodes (additional_info_items k.info))))

  front_length : length front
      ≡ length (shortest 0 k.identifier) + (length (encodes (used_items k.usage)) + length (encode (bytes k.value)))
  front_length =
      omega (
        arith,
        length-append (shortest 0 k.identifier ++ encodes (used_items k.usage)) (encode (bytes k.value)),
        length-append (shortest 0 k.identifier) (encodes (used_items k.usage)),
      )

  pub group-length : length (encodes (group_items k)) ≡ key_length k
  group-length = ap length group-bytes ∙ omega (arith, length-append front (encodes (additional_info_items k.info)), front_length)

  group-count : count (group_items k) ≡ 2 + count (used_items k.usage) + count (additional_info_items k.info)
  group-count =
      chain-count (more (unsigned k.identifier) (usage_items k.usage)) (more (bytes k.value) (additional_info_items k.info))
      ∙ rw (usage-items k.usage) (omega arith)

  pub group-seam : {d d' e : List ℕ} {n m : ℕ} → key_length k ≤ length d → Wrote front d n d'
      → Wrote (encodes (additional_info_items k.info)) (take (length d' - n) (drop n d')) m e
      → Wrote (encodes (group_items k)) d (n + m) (take n d' ++ (e ++ drop (length d' - n) (drop n d')))
  group-seam h w v = rw group-bytes (seam (omega (arith, front_length)) w v)

  pub group-size : HeadLaws → {n : ℕ} {r s : Size} → n ≡ extra_of k.identifier + 1 → k.identifier ≤ 255 → length k.value ≡ 16
      → ItemsSize (used_items k.usage) 1 9 r → ItemsSize (additional_info_items k.info) 1 9 s
      → ItemsSize (group_items k) 4 37 (record { members = 2 + r.members + s.members; bytes = n + r.bytes + 17 + s.bytes })
  group-size heads e i v z y = record {
    members = omega (arith, group-count, z.members, y.members);
    bytes =
        omega (arith, group-length, heads.length-head 0 k.identifier, string-length heads k.value (omega arith), z.bytes, y.bytes);
    few = omega (arith, z.few, y.few);
    small = omega (arith, z.small, y.small, heads.byte-head k.identifier i);
  }

-- ---- the groups of the first keys
-- what a read past the end of an array of keys would give
abbrev pub past : Key
past = record { identifier = 0; usage = 0; value = []; info = Absent }

groups-append : (ks ls : List Key) → groups_items (ks ++ ls) ≡ chain (groups_items ks) (groups_items ls)
groups-append [] ls = refl
groups-append (k ∷ ks) ls =
    ap (chain (group_items k)) (groups-append ks ls) ∙ sym (chain-assoc (group_items k) (groups_items ks) (groups_items ls))

-- those of the first keys take no more room than all
pub groups-less : (ks : List Key) (i : ℕ) → length (encodes (groups_items (take i ks))) ≤ length (encodes (groups_items ks))
groups-less ks i =
    let e : groups_items ks ≡ chain (groups_items (take i ks)) (groups_items (drop i ks)) =
    rw (← groups-append (take i ks) (drop i ks), take-append-drop i ks) in
    omega (arith, ap (λ (is : Items). length (encodes is)) e, chain_length (groups_items (take i ks)) (groups_items (drop i ks)))

-- the keys that a loop over the first `n` places goes over are those of the set
pub listed : (set : KeySet) (n : ℕ) → n ≡ length (keys_of set) → take n set.keys ≡ keys_of set
listed set n e = ap (λ (k : ℕ). take k set.keys) (e ∙ length-take set.count set.keys) ∙ take_min set.count set.keys

module _ (ks : List Key) (i : ℕ) (d : Key) (h : i < length ks) where
  -- one key more
  next : groups_items (take (i + 1) ks) ≡ chain (groups_items (take i ks)) (group_items (get_or ks i d))
  next =
      rw (add-one i, take-suc ks i d h)
      (groups-append (take i ks) (get_or ks i d ∷ []) ∙ rw (chain-none (group_items (get_or ks i d))))

  pub sizes_step : {r s t : Size} → ItemsSize (groups_items (take i ks)) (4 * i) (37 * i) r
      → ItemsSize (group_items (get_or ks i d)) 4 37 s → Sum r s t
      → ItemsSize (groups_items (take (i + 1) ks)) (4 * (i + 1)) (37 * (i + 1)) t
  sizes_step x y z =
      let w = sizes-chain (groups_items (take i ks)) (group_items (get_or ks i d)) x y z in
      rw next (record { members = w.members; bytes = w.bytes; few = omega (arith, w.few); small = omega (arith, w.small) })

  pub groups-room : (n : ℕ) → length (encodes (groups_items ks)) ≤ n
      → length (encodes (groups_items (take i ks))) + key_length (get_or ks i d) ≤ n
  groups-room n f =
      omega (
        arith,
        groups-less ks (i + 1),
        ap (λ (is : Items). length (encodes is)) next,
        chain_length (groups_items (take i ks)) (group_items (get_or ks i d)),
        group-length (get_or ks i d),
      )

  pub groups-seam : {b b' e : List ℕ} {n m : ℕ} → length (encodes (groups_items ks)) ≤ length b
      → Wrote (encodes (groups_items (take i ks))) b n b'
      → Wrote (encodes (group_items (get_or ks i d))) (take (length b' - n) (drop n b')) m e
      → Wrote (encodes (groups_items (take (i + 1) ks))) b (n + m) (take n b' ++ (e ++ drop (length b' - n) (drop n b')))
  groups-seam {b} f w v =
      rw (next, chain-bytes (groups_items (take i ks)) (group_items (get_or ks i d)))
      (seam (omega (arith, groups-room (length b) f, group-length (get_or ks i d))) w v)

-- all of them
module _ (set : KeySet) (n i : ℕ) (e : n ≡ length (keys_of set)) (h : length (take n set.keys) ≤ i) where
  pub all-keys : take i (take n set.keys) ≡ keys_of set
  all-keys = take_all i (take n set.keys) h ∙ listed set n e

  pub all-sizes : n ≤ 8 → i ≤ length (take n set.keys) → {r : Size}
      → ItemsSize (groups_items (take i (take n set.keys))) (4 * i) (37 * i) r → ItemsSize (groups_items (keys_of set)) 32 296 r
  all-sizes f g z =
      let w = rw all-keys at z in
      let few : i ≤ 8 = omega (arith, length-take n set.keys) in
      record { members = w.members; bytes = w.bytes; few = omega (arith, w.few); small = omega (arith, w.small) }

  pub all-groups : {b b' : List ℕ} {m : ℕ} → Wrote (encodes (groups_items (take i (take n set.keys)))) b m b'
      → Wrote (encodes (groups_items (keys_of set))) b m b'
  all-groups w = rw all-keys at w

-- ---- the parameter
module _ (ks : List Key) (m : ℕ) (e : m ≡ count (groups_items ks)) where
  set-bytes : encode_pairs (labelled 2 (array (groups_items ks))) ≡ (shortest 0 2 ++ shortest 4 m) ++ encodes (groups_items ks)
  set-bytes = array-bytes 2 (groups_items ks) ∙ rw (← e)

  pub set-length : length (encode_pairs (labelled 2 (array (groups_items ks)))) ≡ set_length ks m
  set-length = ap length set-bytes ∙ length-append (shortest 0 2 ++ shortest 4 m) (encodes (groups_items ks))

  pub set-seam : {d d' f : List ℕ} {n k : ℕ} → set_length ks m ≤ length d
      → Wrote (shortest 0 2 ++ shortest 4 m) d n d' → Wrote (encodes (groups_items ks)) (take (length d' - n) (drop n d')) k f
      → Wrote (encode_pairs (labelled 2 (array (groups_items ks)))) d (n + k) (take n d' ++ (f ++ drop (length d' - n) (drop n d')))
  set-seam h w v = rw set-bytes (seam h w v)

module _ (p : KeysParameter) (t : Bool) (e : t ≡ if_taken p.disposition true false) (h : t ≡ true) where
  pub keys-taken : keys_pairs p ≡ labelled 2 (array (groups_items (keys_of p.value)))
  keys-taken = taken_is p.disposition (labelled 2 (array (groups_items (keys_of p.value)))) empty t e h

  pub keys-size : HeadLaws → {n : ℕ} {r : Size} → n ≡ extra_of r.members + 1 → ItemsSize (groups_items (keys_of p.value)) 32 296 r
      → PairsSize (keys_pairs p) 1 299 (record { members = 1; bytes = 1 + n + r.bytes })
  keys-size heads {n} {r} l z =
      let ks = keys_of p.value in
      let b : 1 + n + r.bytes ≡ length (encode_pairs (labelled 2 (array (groups_items ks)))) = omega (
        arith,
        set-length ks r.members z.members,
        length-append (shortest 0 2) (shortest 4 r.members),
        heads.short-head 0 2 (omega arith),
        heads.length-head 4 r.members,
        z.bytes,
      ) in
      record {
        members = rw keys-taken;
        bytes = rw keys-taken b;
        few = omega arith;
        small = omega (arith, z.small, heads.byte-head r.members (omega (arith, z.few)));
      }
