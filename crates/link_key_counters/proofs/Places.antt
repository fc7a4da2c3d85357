-- The place of the first key that serves says which it is: the key and the counter of a slot are those at its place, one of the eight.
use Prim.Native.Nat.{ℕ, suc, ◌+◌, ◌-◌, ◌≤◌, ◌<◌}
use native.Mathlib.Omega.{arith}
use mathlib.Core.Path.{◌≡◌, refl, sym, ◌∙◌, ap}
use mathlib.Core.Bool.{not}
use mathlib.Core.List.{List, [], ◌∷◌, Memᴰ}
use mathlib.Core.Option.{Option, none, some}
use borrow.Author.Tests.{eqb-false, not-true}
use lib.ListN.{length, take, get_or, length-take}
use lib.Seq.{get_or-take}
use Rattle.link_key.specs.Key.{covers, key_of}
use Rattle.std.specs.declared.option.Option.TheVariants.{None, Some}
use Rattle.link_key.specs.declared.Key.{Key}
use Rattle.lemmas.specs.logic.Tests.{both_right}
use Rattle.link_key.proofs.set.Lists.{first-is}
use Rattle.link_key_counters.specs.Counters.{Slot, slot, slots_from, slots_of, last_counter, is_used_up, serves, first_serving, place_of}
use Rattle.link_key_counters.specs.declared.CountedSet.{CountedSet}

-- what a read past the end would give
abbrev pub past : Key
past = key_of 0 0 []

-- what stands at a place of a set
abbrev pub standing : CountedSet → ℕ → Slot
standing s i = slot i (get_or s.set.keys i past) (get_or s.counters i 0)

-- a slot from a place on has its own place's key and counter
stands :
    (i : ℕ) (cs : List ℕ) (ks : List Key) (x : Slot) → Memᴰ x (slots_from i cs ks) →
    (i ≤ x.place) × (x.place < i + length ks) × (x.key ≡ get_or ks (x.place - i) past) × (x.counter ≡ get_or cs x.place 0)
stands i cs [] x m = elim m [ ]
stands i cs (k ∷ ks) x (Memᴰ.head p) =
    let none_before : i - i ≡ 0 = omega arith in
    rw (p, none_before) (omega arith, omega arith, refl, refl)
stands i cs (k ∷ ks) x (Memᴰ.tail m) =
    let below = stands (i + 1) cs ks x m in
    let one-before : x.place - i ≡ suc (x.place - (i + 1)) = omega (arith, below.0) in
    (omega (arith, below.0), omega (arith, below.1), rw one-before below.2, below.3)

module _ (type : ℕ) (s : CountedSet) (eight : length s.set.keys ≡ 8) where
  first-stands : (x : Slot) → first_serving type s ≡ some x → (x.place < 8) × (x ≡ standing s x.place)
  first-stands x e =
      let keys = s.set.keys in
      let n = s.set.count in
      let there = stands 0 s.counters (take n keys) x (first-is (serves type) (slots_of s) x e).0 in
      let held : x.place < n = omega (arith, there.1, length-take n keys) in
      let few : x.place < 8 = omega (arith, there.1, length-take n keys) in
      let from_start : x.place - 0 ≡ x.place = omega arith in
      let key = (rw from_start at there.2) ∙ get_or-take n keys x.place past held in
      (few, rw (← key, ← there.3) refl)

  -- the place that code answers is the one of the first key that serves
  is-there : (o : Option Slot) (place : ℕ) → first_serving type s ≡ o → place_of o ≡ Some place → o ≡ some (standing s place)
  is-there none place e h = cc
  is-there (some x) place e h = let p : x.place ≡ place = cc in ap some ((first-stands x e).1 ∙ ap (standing s) p)

  is_none : (o : Option Slot) → place_of o ≡ None → o ≡ none
  is_none none h = refl
  is_none (some x) h = cc

  pub none-serves : None ≡ place_of (first_serving type s) → first_serving type s ≡ none
  none-serves e = is_none (first_serving type s) (sym e)

  module _ (place : ℕ) (e : Some place ≡ place_of (first_serving type s)) where
    pub serving-there : first_serving type s ≡ some (standing s place)
    serving-there = is-there (first_serving type s) place refl (sym e)

    pub unused : get_or s.counters place 0 ≡ 4294967295 → ⊥
    unused h =
        let serving = (first-is (serves type) (slots_of s) (standing s place) serving-there).1 in
        let x = standing s place in
        eqb-false x.counter last_counter (not-true (is_used_up x) (both_right (covers x.key type) (not (is_used_up x)) serving)) h
