-- A key's counter stands at the first place whose key has its identifier and value. Where no identifier comes twice that is the place of
-- the key that was sent with, and writing at one place leaves all others.
use Prim.Native.Nat.{ℕ, ◌+◌, ◌-◌, ◌≤◌, ◌<◌}
use native.Mathlib.Omega.{arith}
use mathlib.Core.Path.{◌≡◌, refl, sym, ap, ◌∙◌}
use mathlib.Core.Bool.{Bool, true, false, cond, not}
use mathlib.Core.List.Memᴰ
use mathlib.Core.List.{List, [], ◌∷◌, ◌++◌, map, Memᴰ}
use mathlib.Core.Option.{Option, none, some}
use borrow.Author.Tests.{eqb-true, eq-eqb, not-true}
use lib.Dec.{eqb}
use lib.ListN.{length, get_or, set, replicate, length-set, length-map, length-append, length-replicate}
use lib.Seq.{get_or-set_same, get_or-set_other, get_or-append_seam, append_snoc}
use Rattle.lemmas.specs.lists.Same.{same}
use Rattle.lemmas.specs.lists.SameLemmas.{same_refl, same-equal}
use Rattle.lemmas.specs.logic.Tests.{both, both_left, both_right}
use Rattle.link_key.specs.Key.{same_secret}
use Rattle.link_key.specs.declared.Key.{Key}
use Rattle.link_key.specs.set.KeySet.{keys_of, valid_set, has, none_twice}
use Rattle.link_key.specs.set.Lists.{first_of}
use Rattle.link_key.specs.declared.set.key_set.KeySet.{KeySet}
use Rattle.link_key.proofs.set.Lists.{first-is}
use Rattle.link_key.proofs.set.KeySets.{has-none, valid-set, valid-few}
use Rattle.link_key_counters.specs.Counters.{Slot, slot, slots_from, slots_of, serves, first_serving, raised}
use Rattle.link_key_counters.specs.Counters.{counter_in, kept_counter, kept_counters, inherit_counters}
use Rattle.link_key_counters.specs.declared.CountedSet.{CountedSet}
use Rattle.link_key_counters.specs.history.Kept.{Holds, Sound, KeptLaws}

-- ---- identifier and value
secret-self : (k : Key) → same_secret k k ≡ true
unfolding same_secret
secret-self k =
    both (eqb k.identifier k.identifier) (same k.value k.value) (eq-eqb k.identifier k.identifier refl)
    (same_refl k.value)

secret-identifier : (k l : Key) → same_secret k l ≡ true → k.identifier ≡ l.identifier
unfolding same_secret
secret-identifier k l e =
    eqb-true k.identifier l.identifier (both_left (eqb k.identifier l.identifier) (same k.value l.value) e)

secret-value : (k l : Key) → same_secret k l ≡ true → k.value ≡ l.value
unfolding same_secret
secret-value k l e =
    same-equal k.value l.value (both_right (eqb k.identifier l.identifier) (same k.value l.value) e)

-- ---- the first place with the key's identifier and value
place_from : Key → ℕ → List Key → Option ℕ
place_from k i [] = none
place_from k i (l ∷ ks) = cond (same_secret l k) (some i) (place_from k (i + 1) ks)

counter_at : List ℕ → Option ℕ → ℕ
counter_at cs none = 0
counter_at cs (some p) = get_or cs p 0

abbrev counter_from : Key → List Slot → ℕ
counter_from k xs = counter_in (first_of (λ (x : Slot). same_secret x.key k) xs)

kept_step :
    (b : Bool) (k : Key) (i : ℕ) (cs : List ℕ) (l : Key) (xs : List Slot) (o : Option ℕ) → counter_from k xs ≡ counter_at cs o →
    counter_in (cond b (some (slot i l (get_or cs i 0))) (first_of (λ (x : Slot). same_secret x.key k) xs))
    ≡ counter_at cs (cond b (some i) o)
unfolding counter_at
kept_step true k i cs l xs o e = refl
kept_step false k i cs l xs o e = e

kept_from : (k : Key) (i : ℕ) (cs : List ℕ) (ks : List Key) → counter_from k (slots_from i cs ks) ≡ counter_at cs (place_from k i ks)
unfolding place_from counter_at
kept_from k i cs [] = refl
kept_from k i cs (l ∷ ks) =
    kept_step (same_secret l k) k i cs l (slots_from (i + 1) cs ks) (place_from k (i + 1) ks) (kept_from k (i + 1) cs ks)

never-some : {A : Type 0} (p : ℕ) → none ≡ some p → A
never-some p e = absurd (let z : ◌≡◌ {A = ℕ} 0 1 = cc in omega arith)

some_same : (i p : ℕ) → some i ≡ some p → i ≡ p
some_same i p e = cc

least_step : (b : Bool) (i p : ℕ) (o : Option ℕ) → cond b (some i) o ≡ some p → (o ≡ some p → i + 1 ≤ p) → i ≤ p
least_step true i p o e f = let q = some_same i p e in omega (arith, q)
least_step false i p o e f = let q = f e in omega (arith, q)

place-least : (k : Key) (i : ℕ) (ks : List Key) (p : ℕ) → place_from k i ks ≡ some p → i ≤ p
unfolding place_from
place-least k i [] p e = never-some p e
place-least k i (l ∷ ks) p e = least_step (same_secret l k) i p (place_from k (i + 1) ks) e (λ f. place-least k (i + 1) ks p f)

-- ---- a slot's place
record Placed (i : ℕ) (cs : List ℕ) (ks : List Key) (x : Slot) : Type 0 where
  least : i ≤ x.place
  inside : x.place < i + length ks
  counter : x.counter ≡ get_or cs x.place 0
  member : Memᴰ x.key ks

slot_placed : (i : ℕ) (cs : List ℕ) (ks : List Key) (x : Slot) → Memᴰ x (slots_from i cs ks) → Placed i cs ks x
slot_placed i cs [] x m = absurd (Memᴰ.not-nil m)
slot_placed i cs (k ∷ ks) x (Memᴰ.head p) =
    let place : x.place ≡ i = ap (λ (y : Slot). y.place) p in
    record {
      least = omega (arith, place);
      inside = omega (arith, place);
      counter = ap (λ (y : Slot). y.counter) p ∙ sym (ap (λ (j : ℕ). get_or cs j 0) place);
      member = Memᴰ.head (ap (λ (y : Slot). y.key) p);
    }
slot_placed i cs (k ∷ ks) x (Memᴰ.tail m) =
    let below = slot_placed (i + 1) cs ks x m in
    record {
      least = omega (arith, below.least);
      inside = omega (arith, below.inside);
      counter = below.counter;
      member = Memᴰ.tail below.member;
    }

-- the key that was sent with has the first such place, where no identifier comes twice
same_step :
    (b : Bool) (k l : Key) (i p : ℕ) (o : Option ℕ) → same_secret l k ≡ b → (same_secret l k ≡ true → ⊥) → o ≡ some p
    → cond b (some i) o ≡ some p
same_step true k l i p o t f e = absurd (f t)
same_step false k l i p o t f e = e

same_place :
    (k : Key) (i : ℕ) (cs : List ℕ) (ks : List Key) (x : Slot) → none_twice ks ≡ true → Memᴰ x (slots_from i cs ks) →
    same_secret x.key k ≡ true → place_from k i ks ≡ some x.place
unfolding place_from
same_place k i cs [] x once m e = absurd (Memᴰ.not-nil m)
same_place k i cs (l ∷ ks) x once (Memᴰ.head p) e =
    let first : same_secret l k ≡ true = sym (ap (λ (y : Slot). same_secret y.key k) p) ∙ e in
    rw first (ap some (sym (ap (λ (y : Slot). y.place) p)))
same_place k i cs (l ∷ ks) x once (Memᴰ.tail m) e =
    same_step (same_secret l k) k l i x.place (place_from k (i + 1) ks) refl other
    (same_place k (i + 1) cs ks x (both_right (not (has l.identifier ks)) (none_twice ks) once) m e)
  where
    absent : has l.identifier ks ≡ false
    absent = not-true (has l.identifier ks) (both_left (not (has l.identifier ks)) (none_twice ks) once)

    other : same_secret l k ≡ true → ⊥
    other t =
        has-none l.identifier ks absent x.key (slot_placed (i + 1) cs ks x m).member
        (secret-identifier x.key k e ∙ sym (secret-identifier l k t))

-- and no other key has its place
other_step :
    (b : Bool) (i p : ℕ) (o : Option ℕ) → i + 1 ≤ p → (o ≡ some p → ⊥) → cond b (some i) o ≡ some p → ⊥
other_step true i p o h f e = let q = some_same i p e in absurd (omega (arith, q, h))
other_step false i p o h f e = f e

other_place :
    (k : Key) (i : ℕ) (cs : List ℕ) (ks : List Key) (x : Slot) → Memᴰ x (slots_from i cs ks) → same_secret x.key k ≡ false →
    place_from k i ks ≡ some x.place → ⊥
unfolding place_from
other_place k i cs [] x m e h = absurd (Memᴰ.not-nil m)
other_place k i cs (l ∷ ks) x (Memᴰ.head p) e h =
    let first : same_secret l k ≡ false = sym (ap (λ (y : Slot). same_secret y.key k) p) ∙ e in
    let place : x.place ≡ i = ap (λ (y : Slot). y.place) p in
    let least : i + 1 ≤ x.place = place-least k (i + 1) ks x.place (rw first at h) in
    absurd (omega (arith, place, least))
other_place k i cs (l ∷ ks) x (Memᴰ.tail m) e h =
    other_step (same_secret l k) i x.place (place_from k (i + 1) ks) (slot_placed (i + 1) cs ks x m).least
    (λ f. other_place k (i + 1) cs ks x m e f) h

-- ---- sending
counter-other : (cs : List ℕ) (o : Option ℕ) (p v : ℕ) → (o ≡ some p → ⊥) → counter_at (set cs p v) o ≡ counter_at cs o
unfolding counter_at
counter-other cs none p v f = refl
counter-other cs (some q) p v f = get_or-set_other cs p q v 0 (λ e. f (ap some e))

module _ (type : ℕ) (s : CountedSet) (x : Slot) (k : Key) (first : first_serving type s ≡ some x) where
  abbrev keys : List Key
  keys = keys_of s.set

  member : Memᴰ x (slots_of s)
  member = (first-is (serves type) (slots_of s) x first).0

  placed : Placed 0 s.counters keys x
  placed = slot_placed 0 s.counters keys x member

  module _ (sound : Sound s) (same : same_secret x.key k ≡ true) where
    place : place_from k 0 keys ≡ some x.place
    place = same_place k 0 s.counters keys x sound.none-twice member same

    first-counter : kept_counter s k ≡ x.counter
    unfolding counter_at
    first-counter = kept_from k 0 s.counters keys ∙ ap (counter_at s.counters) place ∙ sym placed.counter

    raised-same : kept_counter (raised s x) k ≡ x.counter + 1
    unfolding counter_at
    raised-same =
        let counters = set s.counters x.place (x.counter + 1) in
        let inside : x.place < length s.counters = omega (arith, placed.inside, sound.few, sound.counters) in
        kept_from k 0 counters keys ∙ ap (counter_at counters) place ∙ get_or-set_same s.counters x.place (x.counter + 1) 0 inside

  raised-other : same_secret x.key k ≡ false → kept_counter (raised s x) k ≡ kept_counter s k
  raised-other other =
      kept_from k 0 (set s.counters x.place (x.counter + 1)) keys
      ∙ counter-other s.counters (place_from k 0 keys) x.place (x.counter + 1) (other_place k 0 s.counters keys x member other)
      ∙ sym (kept_from k 0 s.counters keys)

-- ---- a set that replaces another one
kept_same : (s : CountedSet) (l k : Key) → same_secret l k ≡ true → kept_counter s l ≡ kept_counter s k
unfolding same_secret
kept_same s l k e = rw (secret-identifier l k e, secret-value l k e)

-- where a list is written key by key by f, the place of the key holds what f says of it
module _ (f : Key → ℕ) (k : Key) (v : ℕ) (says : (l : Key) → same_secret l k ≡ true → f l ≡ v) (zs : List ℕ) where
  at-step :
      (b : Bool) (i p : ℕ) (o : Option ℕ) (front rest : List ℕ) (l : Key) → length front ≡ i → same_secret l k ≡ b →
      cond b (some i) o ≡ some p →
      (o ≡ some p → get_or (front ++ (f l ∷ rest)) p 0 ≡ v) → get_or (front ++ (f l ∷ rest)) p 0 ≡ v
  at-step true i p o front rest l h t e below =
      ap (λ (j : ℕ). get_or (front ++ (f l ∷ rest)) j 0) (sym (some_same i p e) ∙ sym h) ∙ get_or-append_seam front (f l) rest 0 ∙ says l t
  at-step false i p o front rest l h t e below = below e

  at_place :
      (i p : ℕ) (front : List ℕ) (ks : List Key) → length front ≡ i → place_from k i ks ≡ some p →
      get_or (front ++ (map f ks ++ zs)) p 0 ≡ v
  unfolding place_from
  at_place i p front [] h e = never-some p e
  at_place i p front (l ∷ ks) h e =
      at-step (same_secret l k) i p (place_from k (i + 1) ks) front (map f ks ++ zs) l h refl e
      (λ o. ap (λ (xs : List ℕ). get_or xs p 0) (sym (append_snoc front (f l) (map f ks ++ zs)))
      ∙ at_place (i + 1) p (front ++ (f l ∷ [])) ks (length-append front (f l ∷ []) ∙ ap (λ (j : ℕ). j + 1) h) o)

-- a list with the key has a place for it
found-step : (b : Bool) (i : ℕ) (o : Option ℕ) → ((b ≡ true → ⊥) → (p : ℕ) × (o ≡ some p)) → (p : ℕ) × (cond b (some i) o ≡ some p)
found-step true i o f = (i, refl)
found-step false i o f = f (λ e. absurd (let z : ◌≡◌ {A = ℕ} 0 1 = cc in omega arith))

place_found : (k : Key) (i : ℕ) (ks : List Key) (l : Key) → Memᴰ l ks → same_secret l k ≡ true → (p : ℕ) × (place_from k i ks ≡ some p)
unfolding place_from
place_found k i [] l m e = absurd (Memᴰ.not-nil m)
place_found k i (y ∷ ks) l (Memᴰ.head p) e =
    found-step (same_secret y k) i (place_from k (i + 1) ks) (λ f. absurd (f (sym (ap (λ (z : Key). same_secret z k) p) ∙ e)))
place_found k i (y ∷ ks) l (Memᴰ.tail m) e =
    found-step (same_secret y k) i (place_from k (i + 1) ks) (λ f. place_found k (i + 1) ks l m e)

succeeded-keeps : (s : CountedSet) (keys : KeySet) (k : Key) → Holds k (keys_of keys)
    → kept_counter (inherit_counters s keys) k ≡ kept_counter s k
unfolding inherit_counters counter_at
succeeded-keeps s keys k h =
    let ks = keys_of keys in
    let found = place_found k 0 ks h.key h.member h.same in
    let zeros = replicate {A = ℕ} (8 - length ks) 0 in
    kept_from k 0 (kept_counters s ks) ks
    ∙ ap (counter_at (kept_counters s ks)) found.1
    ∙ at_place (kept_counter s) k (kept_counter s k) (λ l e. kept_same s l k e) zeros 0 found.0 [] ks refl found.1

-- ---- sizes
succeeded-size : (s : CountedSet) (keys : KeySet) → valid_set keys ≡ true → length (inherit_counters s keys).counters ≡ 8
unfolding inherit_counters
succeeded-size s keys ok =
    let ks = keys_of keys in
    let few : length ks ≤ 8 = valid-few ks (valid-set keys ok).1 in
    let written : length (map (kept_counter s) ks) ≡ length ks = length-map ks (kept_counter s) in
    let others : length (replicate {A = ℕ} (8 - length ks) 0) ≡ 8 - length ks = length-replicate {A = ℕ} (8 - length ks) 0 in
    let all = length-append (map (kept_counter s) ks) (replicate {A = ℕ} (8 - length ks) 0) in
    omega (arith, few, written, others, all)

pub kept_laws : KeptLaws
kept_laws = record {
  secret-self = secret-self;
  secret-identifier = secret-identifier;
  first-counter = λ type s x k sound first same. first-counter type s x k first sound same;
  raised-same = λ type s x k sound first same. raised-same type s x k first sound same;
  raised-other = λ type s x k first other. raised-other type s x k first other;
  succeeded-keeps = succeeded-keeps;
  raised-size = λ s x e. length-set s.counters x.place (x.counter + 1) ∙ e;
  arrived-size = λ keys. refl;
  succeeded-size = succeeded-size;
}
