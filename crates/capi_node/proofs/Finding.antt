-- A key is looked for one after the other: from each key on the search has the answer that it has from the first.
use Prim.Native.Nat.{ℕ, ◌+◌, ◌-◌, ◌*◌, ◌<◌, ◌≤◌, min}
use mathlib.Core.Bool.{true, false, cond}
use mathlib.Core.List.{List, ◌∷◌}
use mathlib.Core.Option.{Option, none, some}
use Rattle.std.specs.Option.{is_some}
use Rattle.std.specs.declared.option.Option.{Option as Found}
use Rattle.std.specs.declared.option.Option.TheVariants.{Some}
use mathlib.Core.Path.{◌≡◌, refl, ap, sym, ◌∙◌}
use native.Mathlib.Omega.{arith}
use native.Mathlib.Decide.{dec_le}
use borrow.Author.Tests.{eq-eqb, ne_eqb, le-leb, lt-leb}
use lib.Dec.{eqb}
use lib.ListN.{length, take, drop, get_or, length-drop}
use lib.Seq.{drop-drop, take_all}
use Rattle.image.specs.Part.{gets}
use Rattle.image.specs.PartLemmas.{next-gets, take-gets, length-gets, one-digit}
use Rattle.key_image.specs.Key.{key_part, key_set_part}
use Rattle.lemmas.specs.logic.Tests.{never}
use Rattle.link_key.specs.Key.{found_key}
use Rattle.link_key.specs.declared.Key.{Key}
use Rattle.link_key.specs.set.KeySet.{keys_of, find_key}
use Rattle.node_image.specs.Node.{sets_part}
use Rattle.node_image.specs.PlaceLemmas.{first-at}
use Rattle.node_key_sets.specs.Frames.{without_key, or_else, held_key, if_covers, if_found_covers, receiving_key}
use Rattle.node_key_sets.specs.declared.sets.KeySets.{KeySets}
use Rattle.refusal.specs.declared.Refusal.TheVariants as refusal

-- ---- how many keys there are; n is what the code read as the count
module _ (s : List ℕ) (at : ℕ) (long : at + 217 ≤ length s) (n : ℕ) (e : n ≡ get_or s at 0) where
  count-so : (key_set_part.get (drop at s)).count ≡ n
  count-so = one-digit (drop at s) (omega (arith, length-drop at s)) ∙ first-at s at ∙ sym e

  keys-so : (m : ℕ) → (key_set_part.get (drop at s)).count ≡ m
      → keys_of (key_set_part.get (drop at s)) ≡ take m (gets key_part 8 (drop (at + 1) s))
  keys-so m f =
      ap (λ (k : ℕ). take k (key_set_part.get (drop at s)).keys) f ∙ ap (λ (t : List ℕ). take m (gets key_part 8 t)) (drop-drop 1 at s)

  few-keys : n ≤ 8 → gets key_part n (drop (at + 1) s) ≡ keys_of (key_set_part.get (drop at s))
  few-keys h = sym (keys-so n count-so ∙ take-gets key_part n 8 (drop (at + 1) s) h)

  all-keys : 8 < n → gets key_part 8 (drop (at + 1) s) ≡ keys_of (key_set_part.get (drop at s))
  all-keys h =
      sym (keys-so n count-so
      ∙ take_all n (gets key_part 8 (drop (at + 1) s)) (omega (arith, length-gets key_part 8 (drop (at + 1) s))))

module _ (s : List ℕ) (at : ℕ) (long : at + 217 ≤ length s) (n : ℕ) (e : n ≡ get_or s at 0) where
  counted : (b : ℕ) → Dec (n ≤ 8) → b ≡ min n 8 → gets key_part b (drop (at + 1) s) ≡ keys_of (key_set_part.get (drop at s))
  counted b (yes h) f = let z : b ≡ n = omega arith in rw z (few-keys s at long n e h)
  counted b (no h) f = let z : b ≡ 8 = omega arith in rw z (all-keys s at long n e (omega arith))

  pub keys-counted : {b : ℕ} → b ≡ min n 8 → gets key_part b (drop (at + 1) s) ≡ keys_of (key_set_part.get (drop at s))
  keys-counted {b} f = counted b (dec_le n 8) f

-- ---- the search: n keys stand from `at` on
-- the keys from the one at index i on
pub gets-from : (s : List ℕ) (at n i : ℕ) → i < n
    → gets key_part (n - i) (drop (at + 27 * i) s)
    ≡ key_part.get (drop (at + 27 * i) s) ∷ gets key_part (n - (i + 1)) (drop (at + 27 * (i + 1)) s)
gets-from s at n i h =
    let e : n - i - 1 ≡ n - (i + 1) = omega arith in
    let f : at + 27 * i + 27 ≡ at + 27 * (i + 1) = omega arith in
    next-gets key_part s (at + 27 * i) (n - i) (omega arith) ∙ rw (e, f)

module _ (s : List ℕ) (identifier at n i : ℕ) (ks : List Key) (h : i < n)
    (inv : find_key identifier ks ≡ find_key identifier (gets key_part (n - i) (drop (at + 27 * i) s))) where
  abbrev next : Option Key
  next = find_key identifier (gets key_part (n - (i + 1)) (drop (at + 27 * (i + 1)) s))

  first-so : find_key identifier ks
      ≡ cond (eqb (get_or s (at + 27 * i) 0) identifier) (some (key_part.get (drop (at + 27 * i) s))) next
  first-so =
      inv ∙ ap (find_key identifier) (gets-from s at n i h)
      ∙ ap (λ (m : ℕ). cond (eqb m identifier) (some (key_part.get (drop (at + 27 * i) s))) next) (first-at s (at + 27 * i))

  pub found-here : {key : Key} → get_or s (at + 27 * i) 0 ≡ identifier → key ≡ key_part.get (drop (at + 27 * i) s)
      → Some key ≡ found_key (find_key identifier ks)
  found-here e f = rw (first-so, eq-eqb (get_or s (at + 27 * i) 0) identifier e, f)

  pub found-further : ¬ (get_or s (at + 27 * i) 0 ≡ identifier) → find_key identifier ks ≡ next
  found-further e = rw (first-so, ne_eqb (get_or s (at + 27 * i) 0) identifier e)

-- ---- active, or else pending
held-first : (o p : Option Key) → is_some (found_key o) ≡ true → found_key o ≡ found_key (or_else o p)
held-first none p e = never false e refl
held-first (some k) p e = refl

held-second : (o p : Option Key) → is_some (found_key o) ≡ false → found_key p ≡ found_key (or_else o p)
held-second none p e = refl
held-second (some k) p e = never true refl e

module _ (s : List ℕ) (identifier : ℕ) where
  abbrev sets : KeySets
  sets = sets_part.get (drop 29 s)

  abbrev search-at : ℕ → Option Key
  search-at at = find_key identifier (keys_of (key_set_part.get (drop at s)))

  module _ {x : Found Key} (e : x ≡ found_key (search-at 29)) where
    pub held-active : is_some x ≡ true → x ≡ found_key (held_key sets identifier)
    held-active f = e ∙ held-first (search-at 29) _ (sym (ap is_some e) ∙ f)

    pub held-pending : {y : Found Key} → is_some x ≡ false → y ≡ found_key (search-at 278) → y ≡ found_key (held_key sets identifier)
    held-pending f g =
        g ∙ ap (λ (t : List ℕ). found_key (find_key identifier (keys_of (key_set_part.get t)))) (sym (drop-drop 249 29 s))
        ∙ held-second (search-at 29) _ (sym (ap is_some e) ∙ f)

-- ---- the answer to a frame
covers-so : (type : ℕ) (o : Option Key) → if_found_covers type (found_key o) ≡ if_covers type o
covers-so type none = refl
covers-so type (some k) = refl

module _ (sets : KeySets) (type identifier : ℕ) where
  pub other-type : 1 < type → without_key refusal.Range ≡ receiving_key sets type identifier
  unfolding receiving_key
  other-type h = rw (lt-leb type 1 h)

  module _ (known : type ≤ 1) where
    pub no-identifier : identifier ≡ 0 → without_key refusal.Range ≡ receiving_key sets type identifier
    unfolding receiving_key
    no-identifier z = rw (le-leb type 1 known, eq-eqb identifier 0 z)

    pub by-held : ¬ (identifier ≡ 0) → {x : Found Key} → x ≡ found_key (held_key sets identifier)
        → if_found_covers type x ≡ receiving_key sets type identifier
    unfolding receiving_key
    by-held some-identifier e =
        rw (le-leb type 1 known, ne_eqb identifier 0 some-identifier)
        (ap (if_found_covers type) e ∙ covers-so type (held_key sets identifier))
