-- Laws of key sets: what the tests say of the keys in them, and what the searches find.
use Prim.Native.Nat.{ℕ, ◌≤◌, ◌<◌}
use native.Mathlib.Omega.{arith}
use mathlib.Core.Path.{◌≡◌, refl, sym}
use mathlib.Core.Bool.{Bool, true, false, not, ◌&&◌, ◌||◌, and-false, or-true}
use mathlib.Core.List.{List, [], ◌∷◌, ◌++◌, Memᴰ}
use mathlib.Core.Option.{none, some}
use borrow.Author.Tests.{leb-true, eqb-true, eqb-false, eq-eqb, ne_eqb, le-leb, lt-leb, not-true}
use lib.Dec.{leb, eqb}
use lib.ListN.{length, length-take}
use Rattle.link_key.specs.Key.{valid_key, has_no_additional_info, same_key}
use Rattle.link_key.specs.set.KeySet.{keys_of, no_keys, named, has, valid_keys, valid_set, all_valid}
use Rattle.link_key.specs.set.KeySet.{none_twice, each_once, no_additional_infos, same_keys, shares, Apart}
use Rattle.link_key.specs.set.KeySet.{find_key}
use Rattle.link_key.specs.declared.Key.{Key}
use Rattle.link_key.specs.declared.additional_info.AdditionalInfo.TheVariants.{Absent}
use Rattle.link_key.specs.declared.set.key_set.KeySet.{KeySet}
use Rattle.lemmas.specs.logic.Tests.{both_left, both_right, never}
use Rattle.link_key.proofs.Same.{same_self, same-equal}
use Rattle.link_key.proofs.set.Lists.{any_none, any-never, any_append, all-each, all_append, first-is, first-none, none_first}
use Rattle.link_key.proofs.Infos.{plain-info}
use Rattle.link_key.proofs.Keys.{same-key-self, same-key-equal}

-- ---- equal sets
pub same-keys-self : (ks : List Key) → same_keys ks ks ≡ true
same-keys-self ks = same_self same_key same-key-self ks

pub same-keys-equal : (xs ys : List Key) → same_keys xs ys ≡ true → xs ≡ ys
same-keys-equal xs ys e = same-equal same_key same-key-equal xs ys e

-- ---- identifiers
pub has-none : (identifier : ℕ) (ks : List Key) → has identifier ks ≡ false → (k : Key) → Memᴰ k ks → k.identifier ≡ identifier → ⊥
has-none identifier ks e k m p = eqb-false k.identifier identifier (any_none (named identifier) m e) p

pub none_has : (identifier : ℕ) (ks : List Key) → ((k : Key) → Memᴰ k ks → k.identifier ≡ identifier → ⊥) → has identifier ks ≡ false
none_has identifier ks h = any-never (named identifier) ks (λ k m. ne_eqb k.identifier identifier (h k m))

abbrev has_of : List Key → Key → Bool
has_of ys k = has k.identifier ys

pub shares-apart : (xs ys : List Key) → shares xs ys ≡ false → Apart xs ys
shares-apart xs ys e k l m n p = has-none k.identifier ys (any_none (has_of ys) m e) l n (sym p)

pub apart-shares : (xs ys : List Key) → Apart xs ys → shares xs ys ≡ false
apart-shares xs ys h = any-never (has_of ys) xs (λ k m. none_has k.identifier ys (λ l n p. h k l m n (sym p)))

turned : (xs ys : List Key) → Apart xs ys → Apart ys xs
turned xs ys h k l m n p = h l k n m (sym p)

together : (a b : Bool) → (a ≡ false → b ≡ false) → (b ≡ false → a ≡ false) → a ≡ b
together true true f g = refl
together true false f g = g refl
together false true f g = sym (f refl)
together false false f g = refl

pub shares-turned : (xs ys : List Key) → shares xs ys ≡ shares ys xs
shares-turned xs ys =
    together (shares xs ys) (shares ys xs) (λ e. apart-shares ys xs (turned xs ys (shares-apart xs ys e)))
    (λ e. apart-shares xs ys (turned ys xs (shares-apart ys xs e)))

-- ---- a list of keys, and one key more
same_number : (m n : ℕ) → eqb m n ≡ eqb n m
same_number m n =
    together (eqb m n) (eqb n m) (λ e. ne_eqb n m (λ p. eqb-false m n e (sym p))) (λ e. ne_eqb m n (λ p. eqb-false n m e (sym p)))

-- p: an identifier is in the list, q: it is the new key's, r: none comes twice in the list, s: the new key's is in the list
one_more : (p q r s : Bool) → (not (p || (q || false)) && (r && not s)) ≡ (not p && r && not (q || s))
one_more true q r s = refl
one_more false true r s = sym (and-false r)
one_more false false r s = refl

pub none-twice-append : (ks : List Key) (k : Key) → none_twice (ks ++ (k ∷ [])) ≡ (none_twice ks && not (has k.identifier ks))
none-twice-append [] k = refl
none-twice-append (l ∷ ks) k =
    rw (any_append (named l.identifier) ks (k ∷ []), none-twice-append ks k, same_number k.identifier l.identifier)
    (one_more (has l.identifier ks) (eqb l.identifier k.identifier) (none_twice ks) (has k.identifier ks))

pub has-append : (identifier : ℕ) (xs ys : List Key) → has identifier (xs ++ ys) ≡ (has identifier xs || has identifier ys)
has-append identifier xs ys = any_append (named identifier) xs ys

pub limits-append : (xs ys : List Key) → all_valid (xs ++ ys) ≡ (all_valid xs && all_valid ys)
limits-append xs ys = all_append valid_key xs ys

-- an identifier that came before comes twice, whatever follows
twice-step :
    (l k : Key) (ks js : List Key) → has k.identifier (l ∷ ks) ≡ true →
    (has k.identifier ks ≡ true → none_twice (ks ++ (k ∷ js)) ≡ false) → none_twice (l ∷ (ks ++ (k ∷ js))) ≡ false
twice-step l k ks js h below = go (eqb l.identifier k.identifier) refl
  where
    go : (b : Bool) → eqb l.identifier k.identifier ≡ b → none_twice (l ∷ (ks ++ (k ∷ js))) ≡ false
    go true e =
        rw
        (any_append (named l.identifier) ks (k ∷ js), same_number k.identifier l.identifier, e, or-true (has l.identifier ks))
    go false e = let before = rw e at h in rw (below before) (and-false (not (has l.identifier (ks ++ (k ∷ js)))))

some-twice : (ks : List Key) (k : Key) (js : List Key) → has k.identifier ks ≡ true → none_twice (ks ++ (k ∷ js)) ≡ false
some-twice [] k js h = never false h refl
some-twice (l ∷ ks) k js h = twice-step l k ks js h (some-twice ks k js)

pub once_more : (ks : List Key) (k : Key) → each_once ks ≡ true → valid_key k ≡ true → has k.identifier ks ≡ false
    → each_once (ks ++ (k ∷ [])) ≡ true
once_more ks k e ok new =
    rw (
      limits-append ks (k ∷ []),
      none-twice-append ks k,
      both_left (all_valid ks) (none_twice ks) e,
      both_right (all_valid ks) (none_twice ks) e,
      ok,
      new,
    )

pub not-once : (ks : List Key) (k : Key) (js : List Key) → (valid_key k && not (has k.identifier ks)) ≡ false
    → each_once (ks ++ (k ∷ js)) ≡ false
not-once ks k js e = go (valid_key k) refl (has k.identifier ks) refl
  where
    go : (b : Bool) → valid_key k ≡ b → (c : Bool) → has k.identifier ks ≡ c → each_once (ks ++ (k ∷ js)) ≡ false
    go false p c q = rw (limits-append ks (k ∷ js), p, and-false (all_valid ks))
    go true p true q = rw (some-twice ks k js q) (and-false (all_valid (ks ++ (k ∷ js))))
    go true p false q = never true refl (rw (p, q) at e)

-- ---- searches
pub find-found : (identifier : ℕ) (ks : List Key) (k : Key) → find_key identifier ks ≡ some k → Memᴰ k ks × (k.identifier ≡ identifier)
find-found identifier ks k e =
    let both = first-is (named identifier) ks k e in
    (both.0, eqb-true k.identifier identifier both.1)

pub find_none : (identifier : ℕ) (ks : List Key) → find_key identifier ks ≡ none → has identifier ks ≡ false
find_none identifier ks e = first-none (named identifier) ks e

pub none-find : (identifier : ℕ) (ks : List Key) → has identifier ks ≡ false → find_key identifier ks ≡ none
none-find identifier ks e = none_first (named identifier) ks e

-- where no identifier comes twice, a key is found by its identifier
pub find-own : {k : Key} {ks : List Key} → Memᴰ k ks → none_twice ks ≡ true → find_key k.identifier ks ≡ some k
find-own {k = k} (Memᴰ.head {x = l} p) e = rw (p, eq-eqb l.identifier l.identifier refl)
find-own {k = k} (Memᴰ.tail {x = l} {xs = ks} m) e =
    let apart = not-true (has l.identifier ks) (both_left (not (has l.identifier ks)) (none_twice ks) e) in
    let other : eqb l.identifier k.identifier ≡ false = ne_eqb _ _ (λ p. has-none l.identifier ks apart k m (sym p)) in
    rw (other, find-own m (both_right (not (has l.identifier ks)) (none_twice ks) e))

pub one-of-a-name :
    (ks : List Key) (k l : Key) → none_twice ks ≡ true → Memᴰ k ks → Memᴰ l ks → k.identifier ≡ l.identifier → k ≡ l
one-of-a-name ks k l e m n p =
    let a = find-own m e in
    let b = find-own n e in
    cc

-- ---- additional information
pub plain-each : (ks : List Key) → no_additional_infos ks ≡ true → (k : Key) → Memᴰ k ks → k.info ≡ Absent
plain-each ks e k m = plain-info k (all-each has_no_additional_info m e)

-- ---- limits
module _ (ks : List Key) (ok : valid_keys ks ≡ true) where
  pub valid-none-twice : none_twice ks ≡ true
  unfolding valid_keys
  valid-none-twice = both_right (leb 1 (length ks) && leb (length ks) 8 && all_valid ks) (none_twice ks) ok

  front : (leb 1 (length ks) && leb (length ks) 8 && all_valid ks) ≡ true
  unfolding valid_keys
  front = both_left (leb 1 (length ks) && leb (length ks) 8 && all_valid ks) (none_twice ks) ok

  pub valid-each : (k : Key) → Memᴰ k ks → valid_key k ≡ true
  valid-each k m = all-each valid_key m (both_right (leb 1 (length ks) && leb (length ks) 8) (all_valid ks) front)

  sizes : (leb 1 (length ks) && leb (length ks) 8) ≡ true
  sizes = both_left (leb 1 (length ks) && leb (length ks) 8) (all_valid ks) front

  pub valid-some : 1 ≤ length ks
  valid-some = leb-true 1 (length ks) (both_left (leb 1 (length ks)) (leb (length ks) 8) sizes)

  pub valid-few : length ks ≤ 8
  valid-few = leb-true (length ks) 8 (both_right (leb 1 (length ks)) (leb (length ks) 8) sizes)

pub keys-of-none : keys_of no_keys ≡ []
keys-of-none = refl

pub valid-set : (set : KeySet) → valid_set set ≡ true → (set.count ≤ 8) × (valid_keys (keys_of set) ≡ true)
unfolding valid_set
valid-set set e =
    let few = leb set.count 8 in
    (leb-true set.count 8 (both_left few (valid_keys (keys_of set)) e), both_right few (valid_keys (keys_of set)) e)

pub set-valid : (set : KeySet) → set.count ≤ 8 → valid_keys (keys_of set) ≡ true → valid_set set ≡ true
unfolding valid_set
set-valid set few e = rw (le-leb set.count 8 few, e)

-- a set is outside its limits, or they are those of its keys
pub set-over : (set : KeySet) → 8 < set.count → valid_set set ≡ false
unfolding valid_set
set-over set h = rw (lt-leb set.count 8 h)

pub set-none : (set : KeySet) → set.count ≡ 0 → valid_set set ≡ false
unfolding valid_set valid_keys
set-none set e = rw e

pub set-limits :
    (set : KeySet) → length set.keys ≡ 8 → (set.count ≡ 0 → ⊥) → set.count ≤ 8 → valid_set set ≡ each_once (keys_of set)
unfolding valid_set valid_keys
set-limits set places held few =
    let size = length-take set.count set.keys in
    rw (le-leb set.count 8 few, le-leb 1 (length (keys_of set)) (omega (arith, held)), le-leb (length (keys_of set)) 8 (omega arith))
