-- What was found by the marks says where it stands: a free place that the marks lead to is free, and no board's place comes from them.
use Prim.Native.Nat.{ℕ, zero, suc, ◌+◌, ◌-◌, ◌/◌, ◌≤◌, ◌<◌}
use mathlib.Core.Path.{◌≡◌, refl}
use mathlib.Core.Bool.{Bool, true, false, ◌&&◌}
use mathlib.Core.List.{List, [], ◌∷◌}
use native.Mathlib.Omega.{arith}
use native.Mathlib.Nat.{zero-add}
use borrow.Author.Tests.{ltb-true}
use lib.ListN.{length, take, drop}
use Rattle.address_slots.specs.SlotLemmas.{length-slots}
use Rattle.lemmas.specs.logic.Tests.{both_right}
use Rattle.address_slots.specs.Slot.{Slot, slots, held_by, is_free, lowest, has}
use Rattle.address_slots.specs.Marks.{marked, free_by, slot_found_by}
use Rattle.address_slots.specs.declared.slot.SlotFound.TheVariants.{Held, Free}

-- whether there is a place k and it is free
unfoldable pub free_at : List Slot → ℕ → Bool
free_at [] k = false
free_at (p ∷ ps) zero = is_free p
free_at (p ∷ ps) (suc k) = free_at ps k

pub free-inside : (ps : List Slot) (k : ℕ) → free_at ps k ≡ true → k < length ps
unfolding free_at
free-inside [] k h = let z : ◌≡◌ {A = ℕ} 0 1 = cc in absurd (omega arith)
free-inside (p ∷ ps) zero h = omega arith
free-inside (p ∷ ps) (suc k) h = omega (arith, free-inside ps k h)

lowest-cons : (p : Slot) (ps : List Slot) (x : Bool) → is_free p ≡ x
    → (lowest is_free ps < length ps → free_at ps (lowest is_free ps) ≡ true)
    → lowest is_free (p ∷ ps) < suc (length ps) → free_at (p ∷ ps) (lowest is_free (p ∷ ps)) ≡ true
unfolding free_at lowest
lowest-cons p ps true e ih h = rw e e
lowest-cons p ps false e ih h =
    let g : suc (lowest is_free ps) < suc (length ps) = rw e at h in
    rw e (ih (omega arith))

pub lowest-free : (ps : List Slot) → lowest is_free ps < length ps → free_at ps (lowest is_free ps) ≡ true
lowest-free [] h = absurd (omega arith)
lowest-free (p ∷ ps) h = lowest-cons p ps _ refl (lowest-free ps) h

free-take : (j : ℕ) (ps : List Slot) (k : ℕ) → free_at (take j ps) k ≡ true → free_at ps k ≡ true
unfolding free_at
free-take zero ps k h = cc
free-take (suc j) [] k h = h
free-take (suc j) (p ∷ ps) zero h = h
free-take (suc j) (p ∷ ps) (suc k) h = free-take j ps k h

free-drop : (j : ℕ) (ps : List Slot) (k : ℕ) → free_at (drop j ps) k ≡ true → free_at ps (j + k) ≡ true
unfolding free_at
free-drop zero ps k h = rw (zero-add k) h
free-drop (suc j) [] k h = cc
free-drop (suc j) (p ∷ ps) k h = let e : suc j + k ≡ suc (j + k) = omega arith in rw e (free-drop j ps k h)

-- place k, of which j come before the list
abbrev Offered : ℕ → List Slot → ℕ → Type 0
Offered j ps k = (j ≤ k) × (free_at ps (k - j) ≡ true)

offered-cons : (n x j : ℕ) (ps : List Slot) (k : ℕ) (t : Bool) → (marked zero x && has is_free (take 64 ps)) ≡ t
    → (Free k ≡ free_by n (x / 2) (j + 64) (drop 64 ps) → Offered (j + 64) (drop 64 ps) k)
    → Free k ≡ free_by (suc n) x j ps → Offered j ps k
unfolding free_by has
offered-cons n x j ps k true t ih e =
    let f : Free k ≡ Free (j + lowest is_free (take 64 ps)) = rw t at e in
    let g : k ≡ j + lowest is_free (take 64 ps) = cc in
    let z : k - j ≡ lowest is_free (take 64 ps) = omega arith in
    let u = ltb-true (lowest is_free (take 64 ps)) (length (take 64 ps)) (both_right (marked zero x) (has is_free (take 64 ps)) t) in
    (omega arith, rw z (free-take 64 ps (lowest is_free (take 64 ps)) (lowest-free (take 64 ps) u)))
offered-cons n x j ps k false t ih e =
    let o = ih (rw t at e) in
    let z : k - j ≡ 64 + (k - (j + 64)) = omega (arith, o.0) in
    (omega (arith, o.0), rw z (free-drop 64 ps (k - (j + 64)) o.1))

offered : (n x j : ℕ) (ps : List Slot) (k : ℕ) → Free k ≡ free_by n x j ps → Offered j ps k
unfolding free_by
offered zero x j ps k e = let z : ◌≡◌ {A = ℕ} 0 1 = cc in absurd (omega arith)
offered (suc n) x j ps k e = offered-cons n x j ps k _ refl (offered n (x / 2) (j + 64) (drop 64 ps) k) e

never-cons : (n x j : ℕ) (ps : List Slot) (k : ℕ) (t : Bool) → (marked zero x && has is_free (take 64 ps)) ≡ t
    → (Held k ≡ free_by n (x / 2) (j + 64) (drop 64 ps) → ⊥) → Held k ≡ free_by (suc n) x j ps → ⊥
unfolding free_by
never-cons n x j ps k true t ih e =
    let f : Held k ≡ Free (j + lowest is_free (take 64 ps)) = rw t at e in
    let z : ◌≡◌ {A = ℕ} 0 1 = cc in
    omega arith
never-cons n x j ps k false t ih e = ih (rw t at e)

never-held : (n x j : ℕ) (ps : List Slot) (k : ℕ) → Held k ≡ free_by n x j ps → ⊥
unfolding free_by
never-held zero x j ps k e = let z : ◌≡◌ {A = ℕ} 0 1 = cc in omega arith
never-held (suc n) x j ps k e = never-cons n x j ps k _ refl (never-held n (x / 2) (j + 64) (drop 64 ps) k) e

module _ (x : ℕ) (b : List ℕ) (ps : List Slot) (k : ℕ) where
  held_by_lem : (t : Bool) → has (held_by b) ps ≡ t → Held k ≡ slot_found_by x b ps → (k ≡ lowest (held_by b) ps) × (k < length ps)
  unfolding slot_found_by has
  held_by_lem true t e =
      let f : Held k ≡ Held (lowest (held_by b) ps) = rw t at e in
      let g : k ≡ lowest (held_by b) ps = cc in
      (g, omega (arith, ltb-true (lowest (held_by b) ps) (length ps) t))
  held_by_lem false t e = absurd (never-held 64 x 0 ps k (rw t at e))

  free-by : (t : Bool) → has (held_by b) ps ≡ t → Free k ≡ slot_found_by x b ps → (free_at ps k ≡ true) × (has (held_by b) ps ≡ false)
  unfolding slot_found_by
  free-by true t e =
      let f : Free k ≡ Held (lowest (held_by b) ps) = rw t at e in
      let z : ◌≡◌ {A = ℕ} 0 1 = cc in
      absurd (omega arith)
  free-by false t e =
      let z : k - 0 ≡ k = omega arith in
      (rw z at (offered 64 x 0 ps k (rw t at e)).1, t)

  pub held-told : Held k ≡ slot_found_by x b ps → (k ≡ lowest (held_by b) ps) × (k < length ps)
  held-told e = held_by_lem _ refl e

  pub free-told : Free k ≡ slot_found_by x b ps → (free_at ps k ≡ true) × (has (held_by b) ps ≡ false)
  free-told e = free-by _ refl e

module _ (x : ℕ) (b : List ℕ) (n : ℕ) (m : List ℕ) (k : ℕ) where
  pub held-inside : Held k ≡ slot_found_by x b (slots n m) → k < n
  held-inside e = rw (length-slots n m) at (held-told x b (slots n m) k e).1

  pub free-inside-of : Free k ≡ slot_found_by x b (slots n m) → k < n
  free-inside-of e = rw (length-slots n m) at (free-inside (slots n m) k (free-told x b (slots n m) k e).0)
