-- The keys are gathered one after the other, each told by its flag, and a set that no eight places hold is never valid_keys.
use Prim.Native.Nat.{ℕ, suc, ◌+◌, ◌-◌, ◌≤◌, ◌<◌}
use mathlib.Core.Path.{◌≡◌, refl, ap, sym, ◌∙◌}
use mathlib.Core.Bool.{Bool, true, false, cond, ◌&&◌, and-true, and-false, and_assoc}
use mathlib.Core.List.{List, [], ◌∷◌, ◌++◌, append_assoc, append-nil}
use native.Mathlib.Omega.{arith}
use lib.Dec.{leb, ltb, eqb}
use lib.ListN.{length, take, drop, set, replicate, length-append, length-drop}
use lib.Seq.{set_at, append_snoc, take_all, drop-drop, length-take-le}
use borrow.Author.Tests.{lt-leb, ltb-false, leb-true, leb-false, eqb-true}
use Rattle.refusal.specs.declared.Refusal.TheVariants as refusal
use Rattle.cbor.specs.View.{ValueSpec}
use Rattle.cbor.specs.declared.value.Value.{Value}
use Rattle.cbor.specs.declared.value.Value.TheVariants as vv
use Rattle.link_key.specs.Key.{key_with_additional_info, no_key, valid_key}
use Rattle.link_key.specs.set.KeySet.{no_keys, all_valid, none_twice, each_once, valid_keys}
use Rattle.link_key.specs.set.Seen.{joins, Exactly, OneMore, WithOneMore}
use Rattle.link_key.specs.declared.Key.{Key}
use Rattle.link_key.specs.declared.additional_info.AdditionalInfo.{AdditionalInfo}
use Rattle.link_key.specs.declared.set.key_set.KeySet.{KeySet}
use Rattle.cojp_key_set.specs.Groups.{GroupAt, GroupRest, additional_info_before, storable, some_few}
use Rattle.cojp.specs.Bytes.{value_view, members_at, after_members, EndsAt}
use Rattle.cojp.specs.KeySet.{key_set_of, Groups, not_groups, groups_of, group, groups, keys_in, keys_concluded, keys_read_as}
use Rattle.cojp.specs.Octets.{padded, copied_from}
use Rattle.cojp.specs.Reading.{Reading, refused, unfit, good}
use Rattle.cojp_key_set.specs.declared.group.Group.{Group}
use Rattle.std.specs.declared.option.Option.{Option as Found}
use Rattle.std.specs.declared.option.Option.TheVariants.{None, Some}
use Rattle.cojp.specs.declared.key_set.KeysParameter.{KeysParameter}
use Rattle.lemmas.specs.logic.Tests.{both_left, both_right}
use Rattle.cojp.proofs.Arrays.{nothing_left, members-none, array-here, scalar-here}
use Rattle.cojp.proofs.Strings.{copied-inside}

-- ---- a key is added, or there is no place for it
-- a key that no place holds is outside the limits
wide : (u : ℕ) → leb u 255 ≡ false → leb u 14 ≡ false
wide u e = lt-leb u 14 (omega (arith, leb-false u 255 e))

outside : (a b c d f : Bool) → (c ≡ false → d ≡ false) → (b && c && f) ≡ false → (a && b && d && f) ≡ false
outside false b c d f k e = refl
outside true false c d f k e = refl
outside true true false d f k e = rw (k refl)
outside true true true d f k e = rw e (and-false d)

pub not-storable : (k : Key) → storable k.identifier k.usage (length k.value) ≡ false → valid_key k ≡ false
unfolding valid_key
not-storable k e = outside (leb 1 k.identifier) (leb k.identifier 255) (leb k.usage 255) (leb k.usage 14)
    (eqb (length k.value) 16) (wide k.usage) e

-- neither a set of nine keys nor one with a key outside the limits is valid_keys
long-not-valid : (ks : List Key) → 8 < length ks → valid_keys ks ≡ false
unfolding valid_keys
long-not-valid ks h = rw (lt-leb (length ks) 8 h, and-false (leb 1 (length ks)))

some-outside : (ks : List Key) (k : Key) (js : List Key) → valid_key k ≡ false → all_valid (ks ++ k ∷ js) ≡ false
some-outside [] k js e = rw e
some-outside (j ∷ ks) k js e = rw (some-outside ks k js e) (and-false (valid_key j))

one-not-valid : (ks : List Key) (k : Key) (js : List Key) → valid_key k ≡ false → valid_keys (ks ++ k ∷ js) ≡ false
unfolding valid_keys
one-not-valid ks k js e =
    rw (some-outside ks k js e, and-false (leb 1 (length (ks ++ k ∷ js)) && leb (length (ks ++ k ∷ js)) 8))

pub once-not-valid : (ks : List Key) → each_once ks ≡ false → valid_keys ks ≡ false
unfolding valid_keys
once-not-valid ks e =
    let few = (leb 1 (length ks) && leb (length ks) 8) in
    and_assoc few (all_valid ks) (none_twice ks) ∙ rw e (and-false few)

-- ---- the keys so far, and the set that holds them, exactly their flags being set, or is past holding them
pub data Holds (ks : List Key) (seen : List ℕ) (s : KeySet) : Type 0 where
  held : length ks ≤ 8 → each_once ks ≡ true → Exactly seen ks → s ≡ key_set_of ks → Holds ks seen s
  lost : ((js : List Key) → valid_keys (ks ++ js) ≡ false) → s.count ≡ 9 → Holds ks seen s

pub holds-none : (seen : List ℕ) (s : KeySet) → Exactly seen [] → s ≡ no_keys → Holds [] seen s
holds-none seen s clear e = held (omega arith) refl clear e

same_set : (m n : ℕ) (xs ys : List Key) → m ≡ n → xs ≡ ys
    → ◌≡◌ {A = KeySet} (record { count = m; keys = xs }) (record { count = n; keys = ys })
same_set m n xs ys e f = rw (e, f)

module _ (ks : List Key) (k : Key) where
  more-lost : ((js : List Key) → valid_keys (ks ++ (k ∷ js)) ≡ false) → (js : List Key) → valid_keys ((ks ++ (k ∷ [])) ++ js) ≡ false
  more-lost f js = rw (append_assoc ks (k ∷ []) js) (f js)

  stored : length ks < 8 → set (key_set_of ks).keys (length ks) k ≡ (key_set_of (ks ++ (k ∷ []))).keys
  stored h =
      let e : 8 - length ks ≡ suc (8 - length (ks ++ (k ∷ []))) = omega (arith, length-append ks (k ∷ [])) in
      rw e
      (set_at ks no_key (replicate (8 - length (ks ++ (k ∷ []))) no_key) k (length ks) refl
      ∙ sym (append_snoc ks k (replicate (8 - length (ks ++ (k ∷ []))) no_key)))

  one_more : length ks < 8
      → ◌≡◌ {A = KeySet} (record { count = length ks + 1; keys = set (key_set_of ks).keys (length ks) k }) (key_set_of (ks ++ (k ∷ [])))
  one_more h =
      let c : length ks + 1 ≡ length (ks ++ (k ∷ [])) = omega (arith, length-append ks (k ∷ [])) in
      same_set (length ks + 1) (length (ks ++ (k ∷ []))) _ _ c (stored h)

  -- the key has a place: its flag tells whether the set holds it
  stored_more : (joined : Bool) (after : List ℕ) → length ks < 8 → each_once ks ≡ true → OneMore ks k joined after
      → Holds (ks ++ (k ∷ [])) after (record { count = cond joined (length ks + 1) 9; keys = set (key_set_of ks).keys (length ks) k })
  stored_more true after h once m = held (omega (arith, length-append ks (k ∷ []))) (m.good refl once) (m.next refl) (one_more h)
  stored_more false after h once m = lost (more-lost (λ js. once-not-valid (ks ++ (k ∷ js)) (m.bad refl js))) refl

  pub holds-stored : (seen : List ℕ) (s : KeySet) → Holds ks seen s → s.count < 8 → (joined : Bool) (after : List ℕ)
      → (Exactly seen ks → OneMore ks k joined after)
      → Holds (ks ++ (k ∷ [])) after (record { count = cond joined (s.count + 1) 9; keys = set s.keys s.count k })
  holds-stored seen s (held l once clear e) h joined after m =
      rw e (stored_more joined after (let few : (key_set_of ks).count < 8 = rw e at h in few) once (m clear))
  holds-stored seen s (lost f e) h joined after m = absurd (omega arith)

  -- no place can hold it
  pub holds-nine : (seen : List ℕ) (s : KeySet) → Holds ks seen s
      → (ltb s.count 8 && storable k.identifier k.usage (length k.value)) ≡ false
      → Holds (ks ++ (k ∷ [])) seen (record { count = 9; keys = s.keys })
  holds-nine seen s (held l once clear e) none = lost (more-lost (go (ltb (length ks) 8) refl)) refl
    where
      unfit-key : (ltb (length ks) 8 && storable k.identifier k.usage (length k.value)) ≡ false
      unfit-key = rw e at none

      go : (b : Bool) → ltb (length ks) 8 ≡ b → (js : List Key) → valid_keys (ks ++ (k ∷ js)) ≡ false
      go true f js = one-not-valid ks k js (not-storable k (rw f at unfit-key))
      go false f js = long-not-valid (ks ++ (k ∷ js)) (omega (arith, ltb-false (length ks) 8 f, length-append ks (k ∷ js)))
  holds-nine seen s (lost f e) none = lost (more-lost (λ js. f (k ∷ js))) refl

-- ---- the end
pub holds-all : (ks : List Key) (seen : List ℕ) (s : KeySet) → Holds ks seen s → cond (some_few s) (good s) unfit ≡ keys_in (groups_of ks)
unfolding valid_keys
holds-all ks seen s (held l once clear e) =
    let all = both_left (all_valid ks) (none_twice ks) once in
    let two = both_right (all_valid ks) (none_twice ks) once in
    rw (e, all, two, and-true (leb 1 (length ks) && leb (length ks) 8), and-true (leb 1 (length ks) && leb (length ks) 8))
holds-all ks seen s (lost f e) = let g : valid_keys ks ≡ false = rw append-nil at (f []) in rw (e, g)

-- ---- the groups, one after the other
-- keys in front of groups
abbrev pub after : List Key → Groups → Groups
after ks not_groups = not_groups
after ks (groups_of js) = groups_of (ks ++ js)

pub after_none : (gs : Groups) → gs ≡ after [] gs
after_none not_groups = refl
after_none (groups_of js) = refl

after_more :
    (ks : List Key) (i u : ℕ) (v : List ℕ) (o : AdditionalInfo) (gs : Groups)
    → after ks (group i u v o gs) ≡ after (ks ++ (key_with_additional_info i u v o ∷ [])) gs
after_more ks i u v o not_groups = refl
after_more ks i u v o (groups_of js) = ap groups_of (sym (append_snoc ks (key_with_additional_info i u v o) js))

-- ---- the key that is added
pub storable-parts : (i u n : ℕ) → storable i u n ≡ true → (i ≤ 255) × (u ≤ 255) × (n ≡ 16)
storable-parts i u n e =
    let f = both_left (leb i 255 && leb u 255) (eqb n 16) e in (
      leb-true i 255 (both_left (leb i 255) (leb u 255) f),
      leb-true u 255 (both_right (leb i 255) (leb u 255) f),
      eqb-true n 16 (both_right (leb i 255 && leb u 255) (eqb n 16) e),
    )

unpadded : (v : List ℕ) → length v ≡ 16 → padded 16 v ≡ v
unfolding padded
unpadded v e = let z : 16 - length v ≡ 0 = omega arith in rw z (append-nil v)

whole : (l : List ℕ) (p n : ℕ) → p + n ≤ length l → length (take n (drop p l)) ≡ n
whole l p n h = length-take-le n (drop p l) (omega (arith, length-drop p l))

pub value-copied : (l : List ℕ) (p n : ℕ) (b : List ℕ) → p + n ≤ length l → n ≡ 16 → b ≡ copied_from l p n → b ≡ take n (drop p l)
value-copied l p n b h z e = e ∙ copied-inside l p n (omega arith) h ∙ unpadded (take n (drop p l)) (whole l p n h ∙ z)

-- ---- the loop over the groups: the keys so far, the set that holds them, and the groups that are left
pub record Gathering (allowed : Bool) (s : List ℕ) (from count at left : ℕ) (k : KeySet) (seen : List ℕ) : Type 0 where
  pub keys : List Key
  pub holds : Holds keys seen k
  pub so_far : groups allowed (members_at count (drop from s)) ≡ after keys (groups allowed (members_at left (drop at s)))
  pub inside : at ≤ length s
  pub rest : after_members count (drop from s) ≡ after_members left (drop at s)

pub gathering-none : (allowed : Bool) (s : List ℕ) (from count : ℕ) (k : KeySet) (seen : List ℕ) → from ≤ length s → k ≡ no_keys
    → Exactly seen []
    → Gathering allowed s from count from count k seen
gathering-none allowed s from count k seen h e clear =
    record { keys = []; holds = holds-none seen k clear e; so_far = after_none _; inside = h; rest = refl }

module _ (allowed : Bool) (s : List ℕ) (from count at n : ℕ) (k : KeySet) (seen : List ℕ)
    (w : Gathering allowed s from count at n k seen) where
  pub gathering-done : n ≤ 0 → (r : Reading KeysParameter) → r ≡ keys_concluded (cond (some_few k) (good k) unfit)
      → r ≡ keys_concluded (keys_in (groups allowed (members_at count (drop from s))))
  unfolding groups
  gathering-done h r e =
      let z : n ≡ 0 = omega arith in
      let f : groups allowed (members_at count (drop from s)) ≡ groups_of w.keys =
      w.so_far ∙ rw (members-none n (drop at s) z, append-nil) in
      e ∙ ap keys_concluded (holds-all w.keys seen k w.holds ∙ ap keys_in (sym f))

  pub gathering-end : n ≤ 0 → EndsAt s at (after_members count (drop from s))
  gathering-end h = record { rest = sym (w.rest ∙ nothing_left n (drop at s) (omega arith)); inside = w.inside }

  module _ (r : Found Group)
      (g : GroupAt allowed (take (length s - at) (drop at s)) n (groups allowed (members_at n (take (length s - at) (drop at s)))) r) where
    part : take (length s - at) (drop at s) ≡ drop at s
    part = take_all (length s - at) (drop at s) (omega (arith, length-drop at s))

    here-group : GroupAt allowed (drop at s) n (groups allowed (members_at n (drop at s))) r
    here-group = rw part at g

    pub gathering-broken : r ≡ None → (x : Reading KeysParameter) → x ≡ refused refusal.«Type»
        → x ≡ keys_concluded (keys_in (groups allowed (members_at count (drop from s))))
    gathering-broken e x f =
        let b : groups allowed (members_at n (drop at s)) ≡ not_groups = rw e at here-group in
        f ∙ rw (w.so_far, b)

    -- a closed group: a bytes of value from p on, o bytes of additional information right before its end q
    module _ (t : Group) (e : r ≡ Some t) where
      closed : GroupAt allowed (drop at s) n (groups allowed (members_at n (drop at s))) (Some t)
      closed = rw e at here-group

      pub group-within : t.start + t.len ≤ length (take (length s - at) (drop at s))
      group-within = rw part closed.0

      pub group-inside : (at + t.next ≤ length s) × (t.left < n)
      group-inside = (omega (arith, closed.2, length-drop at s, w.inside), closed.3)

      -- the additional information stands before the place where the group ends, and inside the part
      pub info-within : (t.extra ≤ t.next) × (t.next ≤ length (take (length s - at) (drop at s)))
      info-within = (closed.1, rw part closed.2)

      module _ (y : GroupRest (take (length s - at) (drop at s)) 0 n r) where
        abbrev read : Key
        read = key_with_additional_info t.identifier t.usage (take t.len (drop t.start (take (length s - at) (drop at s))))
            (additional_info_before (take (length s - at) (drop at s)) t.next t.extra)

        gathering-more : (x : KeySet) (seen' : List ℕ) → Holds (w.keys ++ (read ∷ [])) seen' x
            → Gathering allowed s from count (at + t.next) t.left x seen'
        gathering-more x seen' h =
            let v : List ℕ = take t.len (drop t.start (drop at s)) in
            let f : AdditionalInfo = additional_info_before (drop at s) t.next t.extra in
            let z : GroupRest (drop at s) 0 n (Some t) = rw e at (rw part at y) in
            record {
              keys = w.keys ++ (key_with_additional_info t.identifier t.usage v f ∷ []);
              holds = rw part at h;
              so_far =
                  w.so_far
                  ∙ rw (closed.4, drop-drop t.next at s)
                  (after_more w.keys t.identifier t.usage v f (groups allowed (members_at t.left (drop (at + t.next) s))));
              inside = group-inside.0;
              rest = w.rest ∙ z ∙ ap (after_members t.left) (drop-drop t.next at s);
            }

        pub gathering-stored : k.count < 8
            → (j : Key) → j ≡ read
            → (seen' : List ℕ) → WithOneMore seen j (joins seen j) seen'
            → (c : ℕ) → c ≡ cond (joins seen j) (k.count + 1) 9
            → Gathering allowed s from count (at + t.next) t.left (record { count = c; keys = set k.keys k.count j }) seen'
        gathering-stored h j f seen' more c z =
            rw z
            (gathering-more (record { count = cond (joins seen j) (k.count + 1) 9; keys = set k.keys k.count j }) seen'
            (rw (← f) (holds-stored w.keys j seen k w.holds h (joins seen j) seen' (more w.keys))))

        pub gathering-nine : (ltb k.count 8 && storable t.identifier t.usage t.len) ≡ false
            → Gathering allowed s from count (at + t.next) t.left (record { count = 9; keys = k.keys }) seen
        gathering-nine f =
            gathering-more (record { count = 9; keys = k.keys }) seen
            (holds-nine w.keys read seen k w.holds (rw (whole (take (length s - at) (drop at s)) t.start t.len group-within) f))

-- ---- the value
module _ (s : List ℕ) (at : ℕ) (v : Value) (e : ValueSpec s at v) (r : Reading KeysParameter) (allowed : Bool) where
  pub keys-array : (p n : ℕ) → v ≡ vv.Array p n → r ≡ keys_concluded (keys_in (groups allowed (members_at n (drop p s))))
      → r ≡ keys_read_as allowed (value_view (drop at s))
  keys-array p n g f = f ∙ rw (array-here s at v e p n g).1

  pub keys-broken : ((p n : ℕ) → ¬ (v ≡ vv.Array p n)) → r ≡ refused refusal.«Type» → r ≡ keys_read_as allowed (value_view (drop at s))
  keys-broken no-array f = f ∙ rw (scalar-here s at v e no-array).1
