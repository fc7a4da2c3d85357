-- Keys asked one after the other with one table of flags: what the loop keeps, and what the answer says of one set and of two.
use Prim.Native.Nat.{ℕ, ◌+◌, ◌-◌, ◌*◌, ◌<◌, ◌≤◌}
use mathlib.Core.Path.{◌≡◌, refl, ap, sym, ◌∙◌}
use mathlib.Core.Bool.{Bool, true, false, not, ◌&&◌, ◌||◌, and-false}
use mathlib.Core.List.{List, [], ◌∷◌, ◌++◌}
use native.Mathlib.Omega.{arith}
use borrow.Author.Tests.{le-leb, lt-leb, leb-true, eqb-true, eqb-false}
use lib.Dec.{leb, eqb}
use lib.ListN.{length, take, drop, get_or, replicate, length-drop}
use lib.Seq.{drop-drop, get_or-drop, length-take-le}
use Rattle.image.specs.Part.{gets}
use Rattle.image.specs.PartLemmas.{next-gets, take-gets, length-gets, one-digit}
use Rattle.key_image.specs.Key.{key_part, key_set_part, counted_set_part}
use Rattle.link_key.specs.Key.{has_no_additional_info}
use Rattle.link_key.specs.declared.Key.{Key}
use Rattle.link_key_counters.specs.declared.CountedSet.{CountedSet}
use Rattle.link_key.specs.set.KeySet.{keys_of, has, none_twice, all_valid, each_once}
use Rattle.link_key.specs.set.KeySet.{valid_keys, valid_set, no_additional_infos, additional_info_allowed, shares}
use Rattle.link_key.specs.set.KeyLaws.{KeyLaws}
use Rattle.link_key.specs.set.Seen.{joins, noted, all_join, SeenLaws}
use Rattle.link_key.specs.declared.set.key_set.KeySet.{KeySet}
use Rattle.node_key_sets.specs.Sets.{is_none, none_or_valid, two_sets, valid, valid_as}
use Rattle.capi_judge.specs.Judge.{passes, all_noted}

-- ---- the loop: from a place on it is asked as from the first
pub record Asked (allowed : Bool) (seen₀ : List ℕ) (ks₀ : List Key) (seen : List ℕ) (ks : List Key) : Type 0 where
  pub told : passes allowed seen₀ ks₀ ≡ passes allowed seen ks
  pub after : all_noted seen₀ ks₀ ≡ all_noted seen ks

module _ (allowed : Bool) (seen₀ seen : List ℕ) (ks₀ ks rest : List Key) (k : Key) (n : ks ≡ k ∷ rest)
    (w : Asked allowed seen₀ ks₀ seen ks) where
  pub may-not : (allowed || has_no_additional_info k) ≡ false → false ≡ passes allowed seen₀ ks₀
  may-not e = sym (w.told ∙ rw (n, e))

  pub joins-not : (allowed || has_no_additional_info k) ≡ true → joins seen k ≡ false → false ≡ passes allowed seen₀ ks₀
  joins-not e f = sym (w.told ∙ rw (n, e, f))

  pub asked-on : (allowed || has_no_additional_info k) ≡ true → joins seen k ≡ true → {seen' : List ℕ} → seen' ≡ noted seen k
      → Asked allowed seen₀ ks₀ seen' rest
  asked-on e f g = record { told = w.told ∙ rw (n, e, f, g); after = w.after ∙ rw (n, g) }

-- the keys from the one at index i on
pub gets-from : (s : List ℕ) (at count i : ℕ) → i < count
    → gets key_part (count - i) (drop (at + 27 * i) s)
    ≡ key_part.get (drop (at + 27 * i) s) ∷ gets key_part (count - (i + 1)) (drop (at + 27 * (i + 1)) s)
gets-from s at count i h =
    let e : count - i - 1 ≡ count - (i + 1) = omega arith in
    let f : at + 27 * i + 27 ≡ at + 27 * (i + 1) = omega arith in
    next-gets key_part s (at + 27 * i) (count - i) (omega arith)
    ∙ rw (e, f)

pub all_asked : (allowed : Bool) (seen₀ seen : List ℕ) (ks₀ ks : List Key) → ks ≡ [] → Asked allowed seen₀ ks₀ seen ks
    → (true ≡ passes allowed seen₀ ks₀) × (seen ≡ all_noted seen₀ ks₀)
all_asked allowed seen₀ seen ks₀ ks n w = (sym (w.told ∙ rw n), sym (w.after ∙ rw n))

-- ---- the set at a place
module _ (s : List ℕ) (at : ℕ) where
  abbrev set_at : KeySet
  set_at = key_set_part.get (drop at s)

  pub count-so : at + 1 ≤ length s → set_at.count ≡ get_or s at 0
  count-so h =
      let e : at + 0 ≡ at = omega arith in
      one-digit (drop at s) (omega (arith, length-drop at s)) ∙ get_or-drop at s 0 0 ∙ ap (λ (m : ℕ). get_or s m 0) e

  keys-so : {n : ℕ} → set_at.count ≡ n → n ≤ 8 → keys_of set_at ≡ gets key_part n (drop (at + 1) s)
  keys-so {n} e h =
      ap (λ (m : ℕ). take m set_at.keys) e ∙ take-gets key_part n 8 (drop 1 (drop at s)) h ∙ ap (gets key_part n) (drop-drop 1 at s)

  -- n is what the code read as the count
  module _ (n : ℕ) (e : n ≡ get_or s at 0) (h : at + 1 ≤ length s) where
    counted : set_at.count ≡ n
    counted = count-so h ∙ sym e

    pub too_many : 8 < n → (b : Bool) → false ≡ (leb set_at.count 8 && b)
    too_many f b = rw (counted, lt-leb n 8 f)

    pub set_told : (allowed : Bool) (seen : List ℕ) {r : Bool} → n ≤ 8 → r ≡ passes allowed seen (gets key_part n (drop (at + 1) s))
        → r ≡ (leb set_at.count 8 && passes allowed seen (keys_of set_at))
    set_told allowed seen f g = rw (keys-so counted f, counted, le-leb n 8 f) g

    pub set-noted : (seen : List ℕ) {x : List ℕ} → n ≤ 8 → x ≡ all_noted seen (gets key_part n (drop (at + 1) s))
        → x ≡ all_noted seen (keys_of set_at)
    set-noted seen f g = g ∙ ap (all_noted seen) (sym (keys-so counted f))

-- ---- one table for two sets
may_more : (i p j q r : Bool) → ((i || p) && (j && ((i || q) && r))) ≡ ((i || (p && q)) && (j && r))
may_more true p j q r = refl
may_more false false j q r = refl
may_more false true true q r = refl
may_more false true false true r = refl
may_more false true false false r = refl

passes-split : (i : Bool) (seen : List ℕ) (ks : List Key) → passes i seen ks ≡ (additional_info_allowed i ks && all_join seen ks)
passes-split true seen [] = refl
passes-split false seen [] = refl
passes-split i seen (k ∷ ks) =
    rw (passes-split i (noted seen k) ks)
    (may_more i (has_no_additional_info k) (joins seen k) (no_additional_infos ks) (all_join (noted seen k) ks))

and-more : (a b c : Bool) → (a && (b && c)) ≡ ((a && b) && c)
and-more true b c = refl
and-more false b c = refl

join-append : (seen : List ℕ) (xs ys : List Key) → all_join seen (xs ++ ys) ≡ (all_join seen xs && all_join (all_noted seen xs) ys)
join-append seen [] ys = refl
join-append seen (k ∷ xs) ys =
    rw (join-append (noted seen k) xs ys) (and-more (joins seen k) (all_join (noted seen k) xs) (all_join (all_noted (noted seen k) xs) ys))

-- h, g: an identifier is in the one list, in the other; n, m: none comes twice in them; s: they share one
twice-more : (h g n m s : Bool) → (not (h || g) && (n && (m && not s))) ≡ ((not h && n) && (m && not (g || s)))
twice-more true g n m s = refl
twice-more false true true m s = sym (and-false m)
twice-more false true false m s = refl
twice-more false false true m s = refl
twice-more false false false m s = refl

and_yes : (a : Bool) → a ≡ (a && true)
and_yes true = refl
and_yes false = refl

none-twice-both : (keys : KeyLaws) (xs ys : List Key) → none_twice (xs ++ ys) ≡ (none_twice xs && (none_twice ys && not (shares xs ys)))
none-twice-both keys [] ys = and_yes (none_twice ys)
none-twice-both keys (k ∷ xs) ys =
    rw (keys.has-append k.identifier xs ys, none-twice-both keys xs ys)
    (twice-more (has k.identifier xs) (has k.identifier ys) (none_twice xs) (none_twice ys) (shares xs ys))

mixed : (a b n m s : Bool) → ((a && b) && (n && (m && s))) ≡ ((a && n) && ((b && m) && s))
mixed false b n m s = refl
mixed true true n m s = refl
mixed true false true m s = refl
mixed true false false m s = refl

once-both : (keys : KeyLaws) (xs ys : List Key) → each_once (xs ++ ys) ≡ (each_once xs && (each_once ys && not (shares xs ys)))
once-both keys xs ys =
    rw (keys.limits-append xs ys, none-twice-both keys xs ys)
    (mixed (all_valid xs) (all_valid ys) (none_twice xs) (none_twice ys) (not (shares xs ys)))

none_or : (set : KeySet) → length set.keys ≡ 8 → none_or_valid set ≡ (leb set.count 8 && each_once (keys_of set))
unfolding valid_set valid_keys
none_or set e = go (eqb set.count 0) refl (leb set.count 8) refl
  where
    go : (a : Bool) → eqb set.count 0 ≡ a → (b : Bool) → leb set.count 8 ≡ b
        → none_or_valid set ≡ (leb set.count 8 && each_once (keys_of set))
    go true p b q = rw (eqb-true set.count 0 p)
    go false p false q = rw (p, q)
    go false p true q =
        let few = leb-true set.count 8 q in
        let n : length (keys_of set) ≡ set.count = length-take-le set.count set.keys (omega arith) in
        rw (p, q, n, q, le-leb 1 set.count (omega (arith, eqb-false set.count 0 p)))

-- i: keys may be allowed; p, q: those of the one set and of the other are plain; l: the other's count; e, s: its keys once, and apart; b:
-- the place
all-asked-true : (l e s b i p q : Bool)
    → ((((l && e) && s) && b) && (i || (p && q))) ≡ (((i || p) && true) && ((l && ((i || q) && (e && s))) && b))
all-asked-true false e s b true p q = refl
all-asked-true true false s b true p q = refl
all-asked-true true true false b true p q = refl
all-asked-true true true true true true p q = refl
all-asked-true true true true false true p q = refl
all-asked-true l e s b false false q = and-false ((((l && e) && s) && b))
all-asked-true false e s b false true q = refl
all-asked-true true e s b false true false = and-false (((e && s) && b))
all-asked-true true false s b false true true = refl
all-asked-true true true false b false true true = refl
all-asked-true true true true true false true true = refl
all-asked-true true true true false false true true = refl

all-asked-false : (x b : Bool) → false ≡ ((x && false) && b)
all-asked-false true b = refl
all-asked-false false b = refl

sorted : (k a l e s b i p q j : Bool) → (a && j) ≡ (a && (e && s))
    → (((((k && a) && (l && e)) && s) && b) && (i || (p && q))) ≡ ((k && ((i || p) && a)) && ((l && ((i || q) && j)) && b))
sorted false a l e s b i p q j h = refl
sorted true true l e s b i p q j h = rw h (all-asked-true l e s b i p q)
sorted true false l e s b i p q j h = all-asked-false (i || p) ((l && ((i || q) && j)) && b)

module _ (keys : KeyLaws) (laws : SeenLaws) (allowed border : Bool) (a b : CountedSet) (m : length a.set.keys ≡ 8)
    (n : length b.set.keys ≡ 8) where
  abbrev zeros : List ℕ
  zeros = replicate 8 0

  abbrev first : Bool
  first = (leb a.set.count 8 && passes allowed zeros (keys_of a.set))

  abbrev second : Bool
  second = (leb b.set.count 8 && passes allowed (all_noted zeros (keys_of a.set)) (keys_of b.set))

  abbrev placed : Bool
  placed = (not border || is_none b.set)

  pub sets-told : valid_as allowed border (two_sets a b) ≡ (first && (second && placed))
  unfolding valid_as valid
  sets-told =
      let ka = keys_of a.set in
      let kb = keys_of b.set in
      let both : (each_once ka && all_join (all_noted zeros ka) kb) ≡ (each_once ka && (each_once kb && not (shares ka kb))) =
      ap (λ (x : Bool). (x && all_join (all_noted zeros ka) kb)) (sym (laws.told ka)) ∙ sym (join-append zeros ka kb)
      ∙ laws.told (ka ++ kb) ∙ once-both keys ka kb in
      rw (none_or a.set m, none_or b.set n, passes-split allowed zeros ka, passes-split allowed (all_noted zeros ka) kb, laws.told ka)
      (sorted (leb a.set.count 8) (each_once ka) (leb b.set.count 8) (each_once kb) (not (shares ka kb)) placed allowed
      (no_additional_infos ka) (no_additional_infos kb) (all_join (all_noted zeros ka) kb) both)

  pub first-not : first ≡ false → false ≡ valid_as allowed border (two_sets a b)
  first-not e = sym (sets-told ∙ rw e)

  pub second-not : first ≡ true → second ≡ false → false ≡ valid_as allowed border (two_sets a b)
  second-not e f = sym (sets-told ∙ rw (e, f))

  pub both_so : {r : Bool} → first ≡ true → second ≡ true → r ≡ placed → r ≡ valid_as allowed border (two_sets a b)
  both_so e f g = g ∙ sym (sets-told ∙ rw (e, f))

-- ---- the two sets from a place on
module _ (keys : KeyLaws) (laws : SeenLaws) (allowed border : Bool) (s : List ℕ) (at : ℕ) where
  abbrev active : CountedSet
  active = counted_set_part.get (drop at s)

  abbrev pending : CountedSet
  pending = counted_set_part.get (drop (at + 249) s)

  abbrev good : Bool
  good = valid_as allowed border (two_sets active pending)

  abbrev asked : List ℕ → CountedSet → Bool
  asked seen x = (leb x.set.count 8 && passes allowed seen (keys_of x.set))

  eight : (t : List ℕ) → length (counted_set_part.get t).set.keys ≡ 8
  eight t = length-gets key_part 8 (drop 1 t)

  module _ {seen : List ℕ} (z : seen ≡ replicate 8 0) where
    clear : {b : Bool} → asked seen active ≡ b → asked (replicate 8 0) active ≡ b
    clear e = ap (λ (x : List ℕ). asked x active) (sym z) ∙ e

    pub active-not : asked seen active ≡ false → false ≡ good
    active-not e = first-not keys laws allowed border active pending (eight (drop at s)) (eight (drop (at + 249) s)) (clear e)

    module _ {next : List ℕ} (e : asked seen active ≡ true) (f : next ≡ all_noted seen (keys_of active.set)) where
      so_far : {b : Bool} → asked next pending ≡ b → asked (all_noted (replicate 8 0) (keys_of active.set)) pending ≡ b
      so_far g = ap (λ (x : List ℕ). asked x pending) (sym (f ∙ ap (λ (x : List ℕ). all_noted x (keys_of active.set)) z)) ∙ g

      pub pending-not : asked next pending ≡ false → false ≡ good
      pending-not g =
          second-not keys laws allowed border active pending (eight (drop at s)) (eight (drop (at + 249) s)) (clear e) (so_far g)

      pub both-good : {r : Bool} → asked next pending ≡ true → r ≡ (not border || is_none pending.set) → r ≡ good
      both-good g h = both_so keys laws allowed border active pending (eight (drop at s)) (eight (drop (at + 249) s)) (clear e) (so_far g) h

  pub none-there : at + 498 ≤ length s → eqb (get_or s (at + 249) 0) 0 ≡ is_none pending.set
  none-there h = ap (λ (n : ℕ). eqb n 0) (sym (count-so s (at + 249) (omega arith)))
