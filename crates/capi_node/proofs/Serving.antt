-- The first key that serves: from each index on the search has the answer that it has from the first.
use Prim.Native.Nat.{ℕ, zero, suc, ◌+◌, ◌*◌, ◌-◌, ◌<◌, ◌≤◌}
use mathlib.Core.Bool.{Bool, true, false, ◌&&◌, and-false}
use mathlib.Core.List.{List, ◌∷◌}
use mathlib.Core.Path.{◌≡◌, refl, ap, sym, ◌∙◌}
use native.Mathlib.Omega.{arith}
use borrow.Author.Tests.{eq-eqb, ne_eqb, lt-ltb}
use lib.ListN.{take, drop, get_or}
use lib.Seq.{drop-drop}
use Rattle.byte_io.specs.BigEndian.{big_endian}
use Rattle.image.specs.Part.{number, gets}
use Rattle.image.specs.PartLemmas.{next-gets}
use Rattle.key_image.specs.Key.{key_part, counted_set_part}
use Rattle.link_key.specs.Key.{covers}
use Rattle.link_key.specs.declared.Key.{Key}
use Rattle.link_key.specs.set.KeySet.{keys_of}
use Rattle.link_key.specs.set.Lists.{first_of}
use Rattle.link_key_counters.specs.Counters.{Slot, slot, slots_from, serves, first_serving}
use Rattle.link_key_counters.specs.declared.CountedSet.{CountedSet}
use Rattle.capi_node.specs.Slots.{key_at, counter_at, slot_at}

-- a counter where it stands
counter-in : (m i : ℕ) (t : List ℕ) → i < m → get_or (gets (number 4) m t) i 0 ≡ big_endian (take 4 (drop (4 * i) t))
counter-in zero i t h = absurd (omega arith)
counter-in (suc m) zero t h = refl
counter-in (suc m) (suc i) t h =
    let e : 4 + 4 * i ≡ 4 * suc i = omega arith in
    counter-in m i (drop 4 t) (omega arith)
    ∙ ap (λ (u : List ℕ). big_endian (take 4 u)) (drop-drop (4 * i) 4 t ∙ ap (λ (k : ℕ). drop k t) e)

and_yes : (a : Bool) → a ≡ (a && true)
and_yes true = refl
and_yes false = refl

-- one key
module _ (s : List ℕ) (type i : ℕ) {x : ℕ} (c : x ≡ counter_at s i) where
  pub used-up : x ≡ 4294967295 → false ≡ serves type (slot i (key_at s i) (counter_at s i))
  used-up e = sym (rw (eq-eqb (counter_at s i) 4294967295 (sym c ∙ e)) (and-false (covers (key_at s i) type)))

  pub fresh : ¬ (x ≡ 4294967295) → {k : Key} {b : Bool} → k ≡ key_at s i → b ≡ covers k type
      → b ≡ serves type (slot i (key_at s i) (counter_at s i))
  fresh h g f =
      rw (ne_eqb (counter_at s i) 4294967295 (λ z. h (c ∙ z)))
      (f ∙ ap (λ (y : Key). covers y type) g ∙ and_yes (covers (key_at s i) type))

module _ (s : List ℕ) where
  abbrev pub active : CountedSet
  active = counted_set_part.get (drop 29 s)

  pub counter-so : (i : ℕ) → i < 8 → get_or active.counters i 0 ≡ counter_at s i
  counter-so i h =
      counter-in 8 i (drop 217 (drop 29 s)) h
      ∙ ap (λ (u : List ℕ). big_endian (take 4 u)) (ap (drop (4 * i)) (drop-drop 217 29 s) ∙ drop-drop (4 * i) 246 s)

  -- those that are left from an index on
  abbrev pub rest : ℕ → ℕ → List Slot
  rest n i = slots_from i active.counters (gets key_part (n - i) (drop (30 + 27 * i) s))

  rest-next : (n i : ℕ) → i < n → i < 8 → rest n i ≡ slot i (key_at s i) (counter_at s i) ∷ rest n (i + 1)
  rest-next n i h few =
      let e : n - i - 1 ≡ n - (i + 1) = omega arith in
      let f : 30 + 27 * i + 27 ≡ 30 + 27 * (i + 1) = omega arith in
      ap (slots_from i active.counters) (next-gets key_part s (30 + 27 * i) (n - i) (omega arith))
      ∙ rw (counter-so i few, e, f)

  module _ (type n : ℕ) where
    abbrev pub Searched : ℕ → Type 0
    Searched i = first_serving type active ≡ first_of (serves type) (rest n i)

    pub search-begun : gets key_part n (drop 30 s) ≡ keys_of active.set → Searched 0
    search-begun e =
        let f : n ≡ n - 0 = omega arith in
        ap (λ (ks : List Key). first_of (serves type) (slots_from 0 active.counters ks))
        (sym e ∙ ap (λ (m : ℕ). gets key_part m (drop 30 s)) f)

    module _ (i : ℕ) (h : i < n) (few : n ≤ 8) (w : Searched i) where
      below : i < 8
      below = omega arith

      module _ {b : Bool} (f : b ≡ serves type (slot i (key_at s i) (counter_at s i))) where
        pub not-serving : b ≡ false → Searched (i + 1)
        not-serving e = w ∙ ap (first_of (serves type)) (rest-next n i h below) ∙ rw (sym f ∙ e)

        pub is-serving : b ≡ true → first_serving type active ≡ slot_at s i
        is-serving e = w ∙ ap (first_of (serves type)) (rest-next n i h below) ∙ rw (sym f ∙ e, lt-ltb i 8 below)

    pub none-serving : (i : ℕ) → n ≤ i → Searched i → first_serving type active ≡ slot_at s 8
    none-serving i h w =
        let z : n - i ≡ 0 = omega arith in
        w ∙ ap (λ (m : ℕ). first_of (serves type) (slots_from i active.counters (gets key_part m (drop (30 + 27 * i) s)))) z
