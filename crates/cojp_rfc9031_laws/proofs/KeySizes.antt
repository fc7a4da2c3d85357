-- A key set takes no more bytes than the array that it was read from: its members are those of the array, but for a usage of 0.
use Prim.Native.Nat.{ℕ, ◌+◌, ◌-◌, ◌≤◌}
use native.Mathlib.Omega.{arith}
use mathlib.Core.Path.{◌≡◌, refl, ap, ◌∙◌}
use mathlib.Core.Bool.{Bool, true, false, cond}
use mathlib.Core.List.{List, [], ◌∷◌, append-nil}
use lib.Dec.{eqb, ltb}
use lib.ListN.{length, replicate, length-append}
use lib.Seq.{take_at}
use borrow.Author.Tests.{ltb-true, lt-ltb}
use Rattle.cbor.specs.Encode.{encode, encodes, encode_pairs, shortest, extra_of}
use Rattle.cbor.specs.HeadLaws.{HeadLaws}
use Rattle.cbor.specs.Item.{unsigned, bytes, array, more, count}
use Rattle.cbor.specs.Item as item
use Rattle.cbor.specs.View.{Scalar, number, minus, string, other, View, scalar, list}
use Rattle.cojp.proofs.Walks.{Gives}
use Rattle.cojp.specs.KeySet.{Groups, not_groups, groups_of, group, further, groups, identified}
use Rattle.cojp.specs.KeySet.{used, valued, keys_in, key_set_of, keys_concluded, keys_read_as}
use Rattle.cojp.specs.Reading.{good, unfit}
use Rattle.cojp.specs.Writing.{usage_items, additional_info_items, group_items, groups_items, keys_pairs}
use Rattle.cojp.specs.WritingLemmas.{chain-count, chain_length}
use Rattle.cojp.specs.declared.key_set.KeysParameter.{KeysParameter}
use Rattle.link_key.specs.AdditionalInfo.{additional_info_in}
use Rattle.link_key.specs.Key.{key_with_additional_info, no_key}
use Rattle.link_key.specs.declared.Key.{Key}
use Rattle.link_key.specs.declared.additional_info.AdditionalInfo.{AdditionalInfo}
use Rattle.link_key.specs.declared.additional_info.AdditionalInfo.TheVariants as info
use Rattle.link_key.specs.set.KeySet.{valid_keys}
use Rattle.cojp_rfc9031_laws.proofs.Items.{head_size, plains_size, view_size}
use Rattle.cojp_rfc9031_laws.proofs.Parameters.{labelled-size, string-size}

-- ---- a head of a smaller number is no longer
step : (a b : Bool) (low x y : ℕ) → (b ≡ true → a ≡ true) → low ≤ y → x ≤ y → cond a low x ≤ cond b low y
step true true low x y i l m = omega arith
step true false low x y i l m = l
step false false low x y i l m = m
step false true low x y i l m = absurd (let z : false ≡ true = i refl in let w : ◌≡◌ {A = ℕ} 0 1 = cc in omega arith)

least : (b : Bool) (low x y : ℕ) → low ≤ x → low ≤ y → low ≤ cond b x y
least true low x y l m = l
least false low x y l m = m

extra-grows : (m n : ℕ) → m ≤ n → extra_of m ≤ extra_of n
unfolding extra_of
extra-grows m n l =
    let below : (k : ℕ) → ltb n k ≡ true → ltb m k ≡ true = λ k e. lt-ltb m k (omega (arith, ltb-true n k e)) in
    step (ltb m 24) (ltb n 24) 0 _ _ (below 24) (omega arith)
    (step (ltb m 256) (ltb n 256) 1 _ _ (below 256)
    (least (ltb n 65536) 1 2 _ (omega arith) (least (ltb n 4294967296) 1 4 8 (omega arith) (omega arith)))
    (step (ltb m 65536) (ltb n 65536) 2 _ _ (below 65536) (least (ltb n 4294967296) 2 4 8 (omega arith) (omega arith))
    (step (ltb m 4294967296) (ltb n 4294967296) 4 8 8 (below 4294967296) (omega arith) (omega arith))))

-- ---- a key: so many members and bytes
abbrev usage_many : ℕ → ℕ
usage_many u = cond (eqb u 0) 0 1

abbrev usage_size : ℕ → ℕ
usage_size u = cond (eqb u 0) 0 (head_size u)

abbrev info_many : AdditionalInfo → ℕ
info_many info.Absent = 0
info_many (info.Four a b c d) = 1
info_many (info.Eight a b c d e f g h) = 1

abbrev info_size : AdditionalInfo → ℕ
info_size info.Absent = 0
info_size (info.Four a b c d) = head_size 4 + 4
info_size (info.Eight a b c d e f g h) = head_size 8 + 8

abbrev key_many : ℕ → AdditionalInfo → ℕ
key_many u w = 2 + usage_many u + info_many w

abbrev key_size : ℕ → ℕ → List ℕ → AdditionalInfo → ℕ
key_size i u v w = head_size i + usage_size u + (head_size (length v) + length v) + info_size w

-- so many members and bytes at most
pub record GroupsWithin (n size : ℕ) (ks : List Key) : Type 0 where
  pub many : count (groups_items ks) ≤ n
  pub bytes : length (encodes (groups_items ks)) ≤ size

abbrev Fine : ℕ → ℕ → Groups → Type 0
Fine n size not_groups = Unit {0}
Fine n size (groups_of ks) = GroupsWithin n size ks

module _ (H : HeadLaws) where
  usage-many : (u : ℕ) → count (usage_items u) ≡ usage_many u
  usage-many u = by (eqb u 0)
    where
      by : (b : Bool) → count (cond b item.no_items (more (unsigned u) item.no_items)) ≡ cond b 0 1
      by true = refl
      by false = refl

  usage-size : (u : ℕ) → length (encodes (usage_items u)) ≡ usage_size u
  usage-size u = by (eqb u 0)
    where
      by : (b : Bool) → length (encodes (cond b item.no_items (more (unsigned u) item.no_items))) ≡ cond b 0 (head_size u)
      by true = refl
      by false = ap length (append-nil (shortest 0 u)) ∙ H.length-head 0 u

  info-many : (w : AdditionalInfo) → count (additional_info_items w) ≡ info_many w
  info-many info.Absent = refl
  info-many (info.Four a b c d) = refl
  info-many (info.Eight a b c d e f g h) = refl

  info-size : (w : AdditionalInfo) → length (encodes (additional_info_items w)) ≡ info_size w
  info-size info.Absent = refl
  info-size (info.Four a b c d) = ap length (append-nil (encode (bytes (a ∷ b ∷ c ∷ d ∷ [])))) ∙ string-size H (a ∷ b ∷ c ∷ d ∷ [])
  info-size (info.Eight a b c d e f g h) =
      ap length (append-nil (encode (bytes (a ∷ b ∷ c ∷ d ∷ e ∷ f ∷ g ∷ h ∷ [])))) ∙ string-size H (a ∷ b ∷ c ∷ d ∷ e ∷ f ∷ g ∷ h ∷ [])

  key-many : (i u : ℕ) (v : List ℕ) (w : AdditionalInfo) → count (group_items (key_with_additional_info i u v w)) ≡ key_many u w
  key-many i u v w =
      chain-count (more (unsigned i) (usage_items u)) (more (bytes v) (additional_info_items w)) ∙ omega (arith, usage-many u, info-many w)

  key-size : (i u : ℕ) (v : List ℕ) (w : AdditionalInfo) →
      length (encodes (group_items (key_with_additional_info i u v w))) ≡ key_size i u v w
  key-size i u v w =
      chain_length (more (unsigned i) (usage_items u)) (more (bytes v) (additional_info_items w))
      ∙ omega (
        arith,
        length-append (shortest 0 i) (encodes (usage_items u)),
        H.length-head 0 i,
        usage-size u,
        length-append (encode (bytes v)) (encodes (additional_info_items w)),
        string-size H v,
        info-size w,
      )

  group-fine : (i u : ℕ) (v : List ℕ) (w : AdditionalInfo) (n size : ℕ) (g : Groups) → Fine n size g →
      Fine (key_many u w + n) (key_size i u v w + size) (group i u v w g)
  group-fine i u v w n size not_groups h = tt
  group-fine i u v w n size (groups_of ks) h = record {
    many = omega (arith, chain-count (group_items (key_with_additional_info i u v w)) (groups_items ks), key-many i u v w, h.many);
    bytes = omega (arith, chain_length (group_items (key_with_additional_info i u v w)) (groups_items ks), key-size i u v w, h.bytes);
  }

  wider : (n size m large : ℕ) (g : Groups) → n ≤ m → size ≤ large → Fine n size g → Fine m large g
  wider n size m large not_groups l k h = tt
  wider n size m large (groups_of ks) l k h = record { many = omega (arith, h.many); bytes = omega (arith, h.bytes) }

  -- additional information is the bytes of its string
  further-fine : (allowed : Bool) (i u : ℕ) (v s : List ℕ) (n size : ℕ) (g : Groups) → Fine n size g →
      Fine (key_many u info.Absent + (1 + n)) (key_size i u v info.Absent + (head_size (length s) + length s + size))
      (further allowed i u v (additional_info_in s) g)
  further-fine false i u v s n size g h = tt
  further-fine true i u v [] n size g h = tt
  further-fine true i u v (a ∷ []) n size g h = tt
  further-fine true i u v (a ∷ b ∷ []) n size g h = tt
  further-fine true i u v (a ∷ b ∷ c ∷ []) n size g h = tt
  further-fine true i u v (a ∷ b ∷ c ∷ d ∷ []) n size g h =
      let w = info.Four a b c d in
      wider (key_many u w + n) (key_size i u v w + size) _ _ (group i u v w g) (omega arith) (omega arith) (group-fine i u v w n size g h)
  further-fine true i u v (a ∷ b ∷ c ∷ d ∷ e ∷ []) n size g h = tt
  further-fine true i u v (a ∷ b ∷ c ∷ d ∷ e ∷ f ∷ []) n size g h = tt
  further-fine true i u v (a ∷ b ∷ c ∷ d ∷ e ∷ f ∷ k ∷ []) n size g h = tt
  further-fine true i u v (a ∷ b ∷ c ∷ d ∷ e ∷ f ∷ k ∷ l ∷ []) n size g h =
      let w = info.Eight a b c d e f k l in
      wider (key_many u w + n) (key_size i u v w + size) _ _ (group i u v w g) (omega arith) (omega arith) (group-fine i u v w n size g h)
  further-fine true i u v (a ∷ b ∷ c ∷ d ∷ e ∷ f ∷ k ∷ l ∷ m ∷ r) n size g h = tt

  usage-most : (u : ℕ) → usage_size u ≤ head_size u
  usage-most u = by (eqb u 0)
    where
      by : (b : Bool) → cond b 0 (head_size u) ≤ head_size u
      by true = omega arith
      by false = omega arith

  one-most : (u : ℕ) → usage_many u ≤ 1
  one-most u = by (eqb u 0)
    where
      by : (b : Bool) → cond b 0 1 ≤ 1
      by true = omega arith
      by false = omega arith

  module _ (allowed : Bool) where
    mutual
      unfolding groups identified used valued

      groups-fine : (ps : List Scalar) → Fine (length ps) (plains_size ps) (groups allowed ps)
      groups-fine [] = record { many = omega arith; bytes = omega arith }
      groups-fine (number i ∷ r) = wider _ _ _ _ (identified allowed i r) (omega arith) (omega arith) (identified-fine r i)
      groups-fine (minus n ∷ r) = tt
      groups-fine (string v ∷ r) = tt
      groups-fine (other ∷ r) = tt

      identified-fine : (ps : List Scalar) (i : ℕ) → Fine (1 + length ps) (head_size i + plains_size ps) (identified allowed i ps)
      identified-fine [] i = tt
      identified-fine (number u ∷ r) i = wider _ _ _ _ (used allowed i u r) (omega arith) (omega arith) (used-fine r i u)
      identified-fine (minus n ∷ r) i = tt
      identified-fine (string v ∷ r) i = wider _ _ _ _ (valued allowed i 0 v r) (omega arith) (omega arith) (valued-fine r i 0 v)
      identified-fine (other ∷ r) i = tt

      used-fine : (ps : List Scalar) (i u : ℕ) → Fine (2 + length ps) (head_size i + head_size u + plains_size ps) (used allowed i u ps)
      used-fine [] i u = tt
      used-fine (number n ∷ r) i u = tt
      used-fine (minus n ∷ r) i u = tt
      used-fine (string v ∷ r) i u =
          wider _ _ _ _ (valued allowed i u v r) (omega (arith, one-most u)) (omega (arith, usage-most u)) (valued-fine r i u v)
      used-fine (other ∷ r) i u = tt

      valued-fine : (ps : List Scalar) (i u : ℕ) (v : List ℕ) →
          Fine (key_many u info.Absent + length ps) (key_size i u v info.Absent + plains_size ps) (valued allowed i u v ps)
      valued-fine [] i u v = group-fine i u v info.Absent 0 0 (groups_of []) (record { many = omega arith; bytes = omega arith })
      valued-fine (number n ∷ r) i u v =
          wider _ _ _ _ (group i u v info.Absent (identified allowed n r)) (omega arith) (omega arith)
          (group-fine i u v info.Absent (1 + length r) (head_size n + plains_size r) (identified allowed n r) (identified-fine r n))
      valued-fine (minus n ∷ r) i u v = tt
      valued-fine (string w ∷ r) i u v =
          wider _ _ _ _ (further allowed i u v (additional_info_in w) (groups allowed r)) (omega arith) (omega arith)
          (further-fine allowed i u v w (length r) (plains_size r) (groups allowed r) (groups-fine r))
      valued-fine (other ∷ r) i u v = tt

  -- ---- a set
  set-size : (ps : List Scalar) (g : Groups) → Fine (length ps) (plains_size ps) g →
      Gives (λ (p : KeysParameter). length (encode_pairs (keys_pairs p)) ≤ 1 + view_size (list ps)) (keys_concluded (keys_in g))
  set-size ps not_groups h = tt
  set-size ps (groups_of ks) h = by (valid_keys ks)
    where
      by : (b : Bool) →
          Gives (λ (p : KeysParameter). length (encode_pairs (keys_pairs p)) ≤ 1 + view_size (list ps))
          (keys_concluded (cond b (good (key_set_of ks)) unfit))
      by false = tt
      by true =
          rw (take_at ks (replicate (8 - length ks) no_key) (length ks) refl)
          (omega (
            arith,
            labelled-size H 2 (array (groups_items ks)) (omega arith),
            length-append (shortest 4 (count (groups_items ks))) (encodes (groups_items ks)),
            H.length-head 4 (count (groups_items ks)),
            extra-grows (count (groups_items ks)) (length ps) h.many,
            h.bytes,
          ))

  pub keys-size : (allowed : Bool) (x : View) →
      Gives (λ (p : KeysParameter). length (encode_pairs (keys_pairs p)) ≤ 1 + view_size x) (keys_read_as allowed x)
  keys-size allowed (scalar p) = tt
  keys-size allowed (list ps) = set-size ps (groups allowed ps) (groups-fine allowed ps)
