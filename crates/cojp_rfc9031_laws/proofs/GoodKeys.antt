-- A flat array reads as groups in one way: after a byte string an unsigned number begins the next group. The limits are told key by key.
use Prim.Native.Nat.{ℕ, suc}
use native.Mathlib.Omega.{arith}
use mathlib.Core.Path.{◌≡◌, refl, ap, ◌∙◌}
use mathlib.Core.Bool.{Bool, true, false, cond, not}
use mathlib.Core.List.{List, [], ◌∷◌, ◌++◌}
use mathlib.Core.Logic.{◌⊎◌, inl, inr}
use mathlib.Core.Option.{Option, none, some}
use lib.Dec.{leb, eqb}
use lib.ListN.{length}
use borrow.Author.Tests.{le-leb, leb-true, eq-eqb, ne_eqb, eqb-true, eqb-false, not-true}
use Rattle.cbor.specs.View.{Scalar, number, minus, string, other, View, scalar, list}
use Rattle.link_key.specs.AdditionalInfo.{additional_info_in}
use Rattle.link_key.specs.Key.{valid_key}
use Rattle.link_key.specs.declared.Key.{Key}
use Rattle.link_key.specs.declared.additional_info.AdditionalInfo.{AdditionalInfo}
use Rattle.link_key.specs.declared.additional_info.AdditionalInfo.TheVariants as info
use Rattle.link_key.specs.set.KeySet.{has, none_twice, all_valid, valid_keys}
use Rattle.cojp.specs.KeySet.{Groups, not_groups, groups_of, group, further, groups, identified, used}
use Rattle.cojp.specs.KeySet.{valued, keys_concluded, keys_read_as, key_set_of, keys_parameter, no_keys_parameter}
use Rattle.cojp.specs.Reading.{malformed_as, good, unfit}
use Rattle.cojp.specs.declared.key_set.KeysParameter.{KeysParameter}
use Rattle.cojp.specs.declared.disposition.Disposition.TheVariants.{Taken, Discarded}
use Rattle.lemmas.specs.logic.Tests.{both, both_left, both_right, neither_left, neither_right, first, second, third, fourth, all-four}
use Rattle.cojp_rfc9031_laws.specs.Good.{perhaps, Group, source_member, set_members, usage_in, key_in, keys_in}
use Rattle.cojp_rfc9031_laws.specs.Good.{GoodGroup, EachGood, NotAmong, NoneTwice, GoodKeys, keys_as, KeysJudged}

abbrev group_with : ℕ → Option ℕ → List ℕ → AdditionalInfo → Group
group_with i u v w = record { identifier = i; usage = u; value = v; source = w }

-- ---- groups that are written read back
next-group : (i u : ℕ) (v : List ℕ) (gs : List Group) →
    valued true i u v (set_members gs) ≡ group i u v info.Absent (groups true (set_members gs))
unfolding groups identified used valued
next-group i u v [] = refl
next-group i u v (g ∷ gs) = refl

group-read : (i : ℕ) (u : Option ℕ) (v : List ℕ) (w : AdditionalInfo) (gs : List Group) →
    groups true (set_members (group_with i u v w ∷ gs)) ≡ group i (usage_in u) v w (groups true (set_members gs))
unfolding groups identified used valued
group-read i none v info.Absent gs = next-group i 0 v gs
group-read i none v (info.Four a b c d) gs = refl
group-read i none v (info.Eight a b c d e f g h) gs = refl
group-read i (some u) v info.Absent gs = next-group i u v gs
group-read i (some u) v (info.Four a b c d) gs = refl
group-read i (some u) v (info.Eight a b c d e f g h) gs = refl

set-read : (gs : List Group) → groups true (set_members gs) ≡ groups_of (keys_in gs)
unfolding groups
set-read [] = refl
set-read (g ∷ gs) =
    group-read g.identifier g.usage g.value g.source gs
    ∙ ap (group g.identifier (usage_in g.usage) g.value g.source) (set-read gs)

-- ---- what reads as groups is written so
abbrev Found : List Scalar → Groups → Type 0
Found ps r = ((gs : List Group) × (ps ≡ set_members gs)) ⊎ (r ≡ not_groups)

abbrev in_front : ℕ → Option ℕ → List ℕ → List Scalar → List Scalar
in_front i u v ps = number i ∷ (perhaps u ++ (string v ∷ ps))

front-group : (i : ℕ) (u : Option ℕ) (v : List ℕ) (w : AdditionalInfo) (gs : List Group) →
    in_front i u v (source_member w ++ set_members gs) ≡ set_members (group_with i u v w ∷ gs)
front-group i none v info.Absent gs = refl
front-group i none v (info.Four a b c d) gs = refl
front-group i none v (info.Eight a b c d e f g h) gs = refl
front-group i (some u) v info.Absent gs = refl
front-group i (some u) v (info.Four a b c d) gs = refl
front-group i (some u) v (info.Eight a b c d e f g h) gs = refl

-- a byte string is additional information or it is not
abbrev SourceFound : List ℕ → Option AdditionalInfo → Type 0
SourceFound w o = ((s : AdditionalInfo) × (string w ∷ [] ≡ source_member s) × (o ≡ some s)) ⊎ (o ≡ none)

source-found : (w : List ℕ) → SourceFound w (additional_info_in w)
source-found (a ∷ b ∷ c ∷ d ∷ []) = inl (info.Four a b c d, refl, refl)
source-found (a ∷ b ∷ c ∷ d ∷ e ∷ f ∷ g ∷ h ∷ []) = inl (info.Eight a b c d e f g h, refl, refl)
source-found [] = inr refl
source-found (a ∷ []) = inr refl
source-found (a ∷ b ∷ []) = inr refl
source-found (a ∷ b ∷ c ∷ []) = inr refl
source-found (a ∷ b ∷ c ∷ d ∷ e ∷ []) = inr refl
source-found (a ∷ b ∷ c ∷ d ∷ e ∷ f ∷ []) = inr refl
source-found (a ∷ b ∷ c ∷ d ∷ e ∷ f ∷ g ∷ []) = inr refl
source-found (a ∷ b ∷ c ∷ d ∷ e ∷ f ∷ g ∷ h ∷ i ∷ r) = inr refl

module _ (i : ℕ) (u : Option ℕ) (v : List ℕ) where
  -- a group without additional information, and those after it
  bare-found : (ps : List Scalar) (r : Groups) → Found ps r → Found (in_front i u v ps) (group i (usage_in u) v info.Absent r)
  bare-found ps r (inl g) =
      inl (group_with i u v info.Absent ∷ g.0, ap (in_front i u v) g.1 ∙ front-group i u v info.Absent g.0)
  bare-found ps r (inr e) = inr (ap (group i (usage_in u) v info.Absent) e)

  -- and one with it
  further-found : (w : List ℕ) (ps : List Scalar) (r : Groups) → SourceFound w (additional_info_in w) → Found ps r →
      Found (in_front i u v (string w ∷ ps)) (further true i (usage_in u) v (additional_info_in w) r)
  further-found w ps r (inl s) (inl g) =
      inl (
        group_with i u v s.0 ∷ g.0,
        ap (λ (l : List Scalar). in_front i u v (string w ∷ l)) g.1
            ∙ ap (λ (l : List Scalar). in_front i u v (l ++ set_members g.0)) s.1
            ∙ front-group i u v s.0 g.0,
      )
  further-found w ps r (inl s) (inr e) = inr (rw (s.2, e))
  further-found w ps r (inr e) f = inr (rw e)

mutual
  unfolding groups identified used valued

  groups-found : (ps : List Scalar) → Found ps (groups true ps)
  groups-found [] = inl ([], refl)
  groups-found (number i ∷ r) = identified-found r i
  groups-found (minus n ∷ r) = inr refl
  groups-found (string v ∷ r) = inr refl
  groups-found (other ∷ r) = inr refl

  identified-found : (ps : List Scalar) (i : ℕ) → Found (number i ∷ ps) (identified true i ps)
  identified-found [] i = inr refl
  identified-found (number u ∷ r) i = used-found r i u
  identified-found (minus n ∷ r) i = inr refl
  identified-found (string v ∷ r) i = valued_found r i none v
  identified-found (other ∷ r) i = inr refl

  used-found : (ps : List Scalar) (i u : ℕ) → Found (number i ∷ number u ∷ ps) (used true i u ps)
  used-found [] i u = inr refl
  used-found (number n ∷ r) i u = inr refl
  used-found (minus n ∷ r) i u = inr refl
  used-found (string v ∷ r) i u = valued_found r i (some u) v
  used-found (other ∷ r) i u = inr refl

  valued_found : (ps : List Scalar) (i : ℕ) (u : Option ℕ) (v : List ℕ) → Found (in_front i u v ps) (valued true i (usage_in u) v ps)
  valued_found [] i u v = bare-found i u v [] (groups_of []) (inl ([], refl))
  valued_found (number n ∷ r) i u v = bare-found i u v (number n ∷ r) (identified true n r) (identified-found r n)
  valued_found (minus n ∷ r) i u v = inr refl
  valued_found (string w ∷ r) i u v = further-found i u v w r (groups true r) (source-found w) (groups-found r)
  valued_found (other ∷ r) i u v = inr refl

-- ---- the limits
keys-many : (gs : List Group) → length (keys_in gs) ≡ length gs
keys-many [] = refl
keys-many (g ∷ gs) = ap suc (keys-many gs)

valid-good : (g : Group) → valid_key (key_in g) ≡ true → GoodGroup g
unfolding valid_key
valid-good g e =
    let a = leb 1 g.identifier in
    let b = leb g.identifier 255 in
    let c = leb (usage_in g.usage) 14 in
    let d = eqb (length g.value) 16 in
    record {
      least = leb-true 1 g.identifier (first a b c d e);
      most = leb-true g.identifier 255 (second a b c d e);
      usage = leb-true (usage_in g.usage) 14 (third a b c d e);
      value = eqb-true (length g.value) 16 (fourth a b c d e);
    }

good-valid : (g : Group) → GoodGroup g → valid_key (key_in g) ≡ true
unfolding valid_key
good-valid g h =
    all-four (leb 1 g.identifier) (leb g.identifier 255) (leb (usage_in g.usage) 14) (eqb (length g.value) 16)
    (le-leb 1 g.identifier h.least) (le-leb g.identifier 255 h.most) (le-leb (usage_in g.usage) 14 h.usage)
    (eq-eqb (length g.value) 16 h.value)

all-good : (gs : List Group) → all_valid (keys_in gs) ≡ true → EachGood gs
all-good [] e = tt
all-good (g ∷ gs) e = (
  valid-good g (both_left (valid_key (key_in g)) (all_valid (keys_in gs)) e),
  all-good gs (both_right (valid_key (key_in g)) (all_valid (keys_in gs)) e),
)

all_valid_lem : (gs : List Group) → EachGood gs → all_valid (keys_in gs) ≡ true
all_valid_lem [] h = refl
all_valid_lem (g ∷ gs) h = both (valid_key (key_in g)) (all_valid (keys_in gs)) (good-valid g h.0) (all_valid_lem gs h.1)

not-among : (i : ℕ) (gs : List Group) → has i (keys_in gs) ≡ false → NotAmong i gs
not-among i [] e = tt
not-among i (g ∷ gs) e = (
  eqb-false g.identifier i (neither_left (eqb g.identifier i) (has i (keys_in gs)) e),
  not-among i gs (neither_right (eqb g.identifier i) (has i (keys_in gs)) e),
)

has-not : (i : ℕ) (gs : List Group) → NotAmong i gs → has i (keys_in gs) ≡ false
has-not i [] h = refl
has-not i (g ∷ gs) h = rw (ne_eqb g.identifier i h.0) (has-not i gs h.1)

once-each : (gs : List Group) → none_twice (keys_in gs) ≡ true → NoneTwice gs
once-each [] e = tt
once-each (g ∷ gs) e =
    let others = has g.identifier (keys_in gs) in (
      not-among g.identifier gs (not-true others (both_left (not others) (none_twice (keys_in gs)) e)),
      once-each gs (both_right (not others) (none_twice (keys_in gs)) e),
    )

none-twice : (gs : List Group) → NoneTwice gs → none_twice (keys_in gs) ≡ true
none-twice [] h = refl
none-twice (g ∷ gs) h = rw (has-not g.identifier gs h.0) (none-twice gs h.1)

-- ---- the parameter
abbrev keys_or : Bool → List Key → KeysParameter
keys_or b ks = malformed_as (no_keys_parameter Discarded) (keys_concluded (cond b (good (key_set_of ks)) unfit))

set-kept : (gs : List Group) → keys_parameter Taken (key_set_of (keys_in gs)) ≡ keys_as Taken gs
set-kept gs = rw (keys-many gs)

keys-good : (x : View) (gs : List Group) → GoodKeys x gs →
    malformed_as (no_keys_parameter Discarded) (keys_read_as true x) ≡ keys_as Taken gs
unfolding valid_keys
keys-good x gs g =
    let ks = keys_in gs in
    let few =
    all-four (leb 1 (length ks)) (leb (length ks) 8) (all_valid ks) (none_twice ks)
    (le-leb 1 (length ks) (omega (arith, keys-many gs, g.one))) (le-leb (length ks) 8 (omega (arith, keys-many gs, g.eight)))
    (all_valid_lem gs g.each) (none-twice gs g.once) in
    rw (g.is, set-read gs) (ap (λ (b : Bool). keys_or b ks) few ∙ set-kept gs)

abbrev KeysOr : List Scalar → Type 0
KeysOr ps =
    ((gs : List Group) × GoodKeys (list ps) gs)
    ⊎ (malformed_as (no_keys_parameter Discarded) (keys_read_as true (list ps)) ≡ keys_as Discarded [])

keys-fit : (ps : List Scalar) (gs : List Group) → ps ≡ set_members gs → (b : Bool) → valid_keys (keys_in gs) ≡ b → KeysOr ps
unfolding valid_keys
keys-fit ps gs e true v =
    let ks = keys_in gs in
    let a = leb 1 (length ks) in
    let b = leb (length ks) 8 in
    inl (
      gs,
      record {
        is = ap list e;
        one = omega (arith, keys-many gs, leb-true 1 (length ks) (first a b (all_valid ks) (none_twice ks) v));
        eight = omega (arith, keys-many gs, leb-true (length ks) 8 (second a b (all_valid ks) (none_twice ks) v));
        each = all-good gs (third a b (all_valid ks) (none_twice ks) v);
        once = once-each gs (fourth a b (all_valid ks) (none_twice ks) v);
      },
    )
keys-fit ps gs e false v = inr (rw (e, set-read gs) (ap (λ (b : Bool). keys_or b (keys_in gs)) v))

keys-or : (ps : List Scalar) → Found ps (groups true ps) → KeysOr ps
keys-or ps (inl g) = keys-fit ps g.0 g.1 (valid_keys (keys_in g.0)) refl
keys-or ps (inr e) = inr (rw e)

pub keys-judged : (x : View) → KeysJudged x (malformed_as (no_keys_parameter Discarded) (keys_read_as true x))
keys-judged x = record { good = keys-good x; other = by x }
  where
    by : (x : View) → ((gs : List Group) × GoodKeys x gs) ⊎
        (malformed_as (no_keys_parameter Discarded) (keys_read_as true x) ≡ keys_as Discarded [])
    by (scalar p) = inr refl
    by (list ps) = keys-or ps (groups-found ps)
