-- Where the marks lead: right ones to the lowest free place of all, since every lower group has none;
-- any marks to the first marked group with one.
use Prim.Native.Nat.{ℕ, zero, suc, ◌+◌, ◌*◌, ◌/◌, ◌%◌, ◌≤◌, ◌<◌}
use mathlib.Core.Path.{◌≡◌, refl, sym, ap, ◌∙◌}
use mathlib.Core.Bool.{Bool, true, false, cond, ◌&&◌}
use mathlib.Core.List.{List, [], ◌∷◌}
use native.Mathlib.Omega.{arith}
use native.Mathlib.Nat.{zero-add}
use borrow.Author.Tests.{lt-ltb, le-ltb, ltb-true, ltb-false}
use lib.ListN.{length, take, drop, set, length-take, length-drop}
use Rattle.address_slots.specs.Slot.{Slot, is_free, lowest, has, slot_found}
use Rattle.address_slots.specs.Marks.{marked, group_at, marks_of, free_by, slot_found_by}
use Rattle.address_slots.specs.declared.slot.SlotFound.{SlotFound}
use Rattle.address_slots.specs.declared.slot.SlotFound.TheVariants.{Free, Nothing}
use Rattle.address_slots.proofs.Offers.{free_at, free-inside}
use Rattle.address_ledger_laws.specs.Marked.{NoneBelow}
use Rattle.address_ledger_laws.proofs.Marking.{lowest-bit, rest_of, next-group}

-- ---- the lowest free place of a list, by its first places and the rest
in-front-cons : (p : Slot) (i : ℕ) (ps : List Slot) (x : Bool) → is_free p ≡ x
    → (lowest is_free (take i ps) < length (take i ps) → lowest is_free ps ≡ lowest is_free (take i ps))
    → lowest is_free (p ∷ take i ps) < suc (length (take i ps)) → lowest is_free (p ∷ ps) ≡ lowest is_free (p ∷ take i ps)
unfolding lowest
in-front-cons p i ps true e ih h = rw e
in-front-cons p i ps false e ih h =
    let g : suc (lowest is_free (take i ps)) < suc (length (take i ps)) = rw e at h in
    rw e (ap suc (ih (omega arith)))

in-front : (i : ℕ) (ps : List Slot) → lowest is_free (take i ps) < length (take i ps) → lowest is_free ps ≡ lowest is_free (take i ps)
in-front zero ps h = absurd (omega arith)
in-front (suc i) [] h = absurd (omega arith)
in-front (suc i) (p ∷ ps) h = in-front-cons p i ps _ refl (in-front i ps) h

behind-cons : (p : Slot) (i : ℕ) (ps : List Slot) (x : Bool) → is_free p ≡ x
    → (length (take i ps) ≤ lowest is_free (take i ps) → lowest is_free ps ≡ length (take i ps) + lowest is_free (drop i ps))
    → suc (length (take i ps)) ≤ lowest is_free (p ∷ take i ps)
    → lowest is_free (p ∷ ps) ≡ suc (length (take i ps)) + lowest is_free (drop i ps)
unfolding lowest
behind-cons p i ps true e ih h = let g : suc (length (take i ps)) ≤ 0 = rw e at h in absurd (omega arith)
behind-cons p i ps false e ih h =
    let g : suc (length (take i ps)) ≤ suc (lowest is_free (take i ps)) = rw e at h in
    rw e (omega (arith, ih (omega arith)))

behind : (i : ℕ) (ps : List Slot) → length (take i ps) ≤ lowest is_free (take i ps)
    → lowest is_free ps ≡ length (take i ps) + lowest is_free (drop i ps)
unfolding lowest
behind zero ps h = sym (zero-add (lowest is_free ps))
behind (suc i) [] h = refl
behind (suc i) (p ∷ ps) h = behind-cons p i ps _ refl (behind i ps) h

-- ---- right marks
abbrev walk_found : ℕ → List Slot → SlotFound
walk_found j ps = cond (has is_free ps) (Free (j + lowest is_free ps)) Nothing

module _ (j : ℕ) (ps : List Slot) where
  front-found : has is_free (take 64 ps) ≡ true → Free (j + lowest is_free (take 64 ps)) ≡ walk_found j ps
  unfolding has
  front-found t =
      let l = ltb-true (lowest is_free (take 64 ps)) (length (take 64 ps)) t in
      let e = in-front 64 ps l in
      let w : lowest is_free ps < length ps = omega (arith, e, l, length-take 64 ps) in
      rw (lt-ltb (lowest is_free ps) (length ps) w, e)

  rest-by : (t : Bool) → has is_free (drop 64 ps) ≡ t → has is_free (take 64 ps) ≡ false
      → walk_found (j + 64) (drop 64 ps) ≡ walk_found j ps
  unfolding has
  rest-by true t f =
      let e = behind 64 ps (ltb-false (lowest is_free (take 64 ps)) (length (take 64 ps)) f) in
      let l = ltb-true (lowest is_free (drop 64 ps)) (length (drop 64 ps)) t in
      let w : lowest is_free ps < length ps = omega (arith, e, l, length-take 64 ps, length-drop 64 ps) in
      let s : j + 64 + lowest is_free (drop 64 ps) ≡ j + lowest is_free ps = omega (arith, e, l, length-take 64 ps, length-drop 64 ps) in
      rw (t, lt-ltb (lowest is_free ps) (length ps) w, s)
  rest-by false t f =
      let e = behind 64 ps (ltb-false (lowest is_free (take 64 ps)) (length (take 64 ps)) f) in
      let l = ltb-false (lowest is_free (drop 64 ps)) (length (drop 64 ps)) t in
      let w : length ps ≤ lowest is_free ps = omega (arith, e, l, length-take 64 ps, length-drop 64 ps) in
      rw (t, le-ltb (lowest is_free ps) (length ps) w)

walk-cons : (n j : ℕ) (ps : List Slot) (t : Bool) → has is_free (take 64 ps) ≡ t
    → free_by n (marks_of n (drop 64 ps)) (j + 64) (drop 64 ps) ≡ walk_found (j + 64) (drop 64 ps)
    → free_by (suc n) (marks_of (suc n) ps) j ps ≡ walk_found j ps
unfolding free_by marks_of marked
walk-cons n j ps true t ih =
    rw (lowest-bit (has is_free (take 64 ps)) (marks_of n (drop 64 ps)), t) (front-found j ps t)
walk-cons n j ps false t ih =
    rw (lowest-bit (has is_free (take 64 ps)) (marks_of n (drop 64 ps)), rest_of (has is_free (take 64 ps)) (marks_of n (drop 64 ps)), t)
    (ih ∙ rest-by j ps _ refl t)

walk-found : (n j : ℕ) (ps : List Slot) → length ps ≤ 64 * n → free_by n (marks_of n ps) j ps ≡ walk_found j ps
unfolding free_by has lowest
walk-found zero j [] h = refl
walk-found zero j (p ∷ ps) h = absurd (omega arith)
walk-found (suc n) j ps h = walk-cons n j ps _ refl (walk-found n (j + 64) (drop 64 ps) (omega (arith, length-drop 64 ps)))

-- what right marks find is what a walk of all places finds
pub as-walked : (b : List ℕ) (ps : List Slot) → length ps ≤ 4096 → slot_found_by (marks_of 64 ps) b ps ≡ slot_found b ps
unfolding slot_found_by slot_found
as-walked b ps h = rw (walk-found 64 0 ps (omega arith), zero-add (lowest is_free ps))

-- ---- any marks
passed-by : (n x j : ℕ) (ps : List Slot) (p q : Bool) → marked zero x ≡ p → has is_free (take 64 ps) ≡ q → (p ≡ true → q ≡ false)
    → free_by (suc n) x j ps ≡ free_by n (x / 2) (j + 64) (drop 64 ps)
unfolding free_by
passed-by n x j ps true true e f h = let z : true ≡ false = h refl in cc
passed-by n x j ps true false e f h = rw (e, f)
passed-by n x j ps false q e f h = rw e

module _ (n x j : ℕ) (ps : List Slot) (k : ℕ) (none : NoneBelow x ps (suc k)) where
  pub passed : free_by (suc n) x j ps ≡ free_by n (x / 2) (j + 64) (drop 64 ps)
  passed = passed-by n x j ps _ _ refl refl (none 0 (omega arith))

  pub none-further : NoneBelow (x / 2) (drop 64 ps) k
  unfolding marked
  none-further g h m = rw (← next-group g ps) (none (suc g) (omega arith) m)

marked-rest : (g x : ℕ) → marked (suc g) x ≡ true → marked g (x / 2) ≡ true
unfolding marked
marked-rest g x m = m

pub first-marked : (n g x j : ℕ) (ps : List Slot) → g < n → marked g x ≡ true → has is_free (group_at g ps) ≡ true → NoneBelow x ps g
    → free_by n x j ps ≡ Free (j + (64 * g + lowest is_free (group_at g ps)))
unfolding free_by
first-marked zero g x j ps h m f none = absurd (omega arith)
first-marked (suc n) zero x j ps h m f none =
    let e : 64 * 0 + lowest is_free (take 64 ps) ≡ lowest is_free (take 64 ps) = omega arith in
    rw (m, f, e)
first-marked (suc n) (suc g) x j ps h m f none =
    let i = first-marked n g (x / 2) (j + 64) (drop 64 ps) (omega arith) (marked-rest g x m) (rw (next-group g ps) at f)
    (none-further n x j ps g none) in
    let e : j + 64 + (64 * g + lowest is_free (group_at g (drop 64 ps))) ≡ j + (64 * suc g + lowest is_free (group_at g (drop 64 ps))) =
    omega arith in
    passed n x j ps g none ∙ i ∙ rw (next-group g ps, e)

pub none-marked : (n x j : ℕ) (ps : List Slot) → NoneBelow x ps n → free_by n x j ps ≡ Nothing
unfolding free_by
none-marked zero x j ps none = refl
none-marked (suc n) x j ps none = passed n x j ps n none ∙ none-marked n (x / 2) (j + 64) (drop 64 ps) (none-further n x j ps n none)

-- ---- a marked group with a free place: something is found, and the lowest free place of all where that is in it
some-by : (n x j : ℕ) (ps : List Slot) (t : Bool) → (marked zero x && has is_free (take 64 ps)) ≡ t
    → (free_by n (x / 2) (j + 64) (drop 64 ps) ≡ Nothing → ⊥) → free_by (suc n) x j ps ≡ Nothing → ⊥
unfolding free_by
some-by n x j ps true t ih e =
    let f : Free (j + lowest is_free (take 64 ps)) ≡ Nothing = rw t at e in
    let z : ◌≡◌ {A = ℕ} 0 1 = cc in
    omega arith
some-by n x j ps false t ih e = ih (rw t at e)

pub some-marked : (n g x j : ℕ) (ps : List Slot) → g < n → marked g x ≡ true → has is_free (group_at g ps) ≡ true
    → free_by n x j ps ≡ Nothing → ⊥
unfolding free_by
some-marked zero g x j ps h m f e = absurd (omega arith)
some-marked (suc n) zero x j ps h m f e =
    let q : Free (j + lowest is_free (take 64 ps)) ≡ Nothing = rw (m, f) at e in
    let z : ◌≡◌ {A = ℕ} 0 1 = cc in
    omega arith
some-marked (suc n) (suc g) x j ps h m f e =
    some-by n x j ps _ refl
    (some-marked n g (x / 2) (j + 64) (drop 64 ps) (omega arith) (marked-rest g x m) (rw (next-group g ps) at f)) e

lowest_by : (n x j : ℕ) (ps : List Slot) (t : Bool) → has is_free (take 64 ps) ≡ t → lowest is_free ps < length ps
    → marked (lowest is_free ps / 64) x ≡ true
    → (64 ≤ lowest is_free ps → lowest is_free ps ≡ 64 + lowest is_free (drop 64 ps)
    → free_by n (x / 2) (j + 64) (drop 64 ps) ≡ Free (j + 64 + lowest is_free (drop 64 ps)))
    → free_by (suc n) x j ps ≡ Free (j + lowest is_free ps)
unfolding free_by has
lowest_by n x j ps true t h m ih =
    let l = ltb-true (lowest is_free (take 64 ps)) (length (take 64 ps)) t in
    let e = in-front 64 ps l in
    let z : lowest is_free ps / 64 ≡ 0 = omega (arith, e, l, length-take 64 ps) in
    let m' : marked 0 x ≡ true = rw z at m in
    rw (m', t, e)
lowest_by n x j ps false t h m ih =
    let e = behind 64 ps (ltb-false (lowest is_free (take 64 ps)) (length (take 64 ps)) t) in
    let q : lowest is_free ps ≡ 64 + lowest is_free (drop 64 ps) = omega (arith, e, h, length-take 64 ps, length-drop 64 ps) in
    let z : j + 64 + lowest is_free (drop 64 ps) ≡ j + lowest is_free ps = omega arith in
    passed-by n x j ps _ _ refl refl (λ (w : marked zero x ≡ true). t) ∙ ih (omega arith) q ∙ ap Free z

pub lowest-marked : (n x j : ℕ) (ps : List Slot) → lowest is_free ps < length ps → length ps ≤ 64 * n
    → marked (lowest is_free ps / 64) x ≡ true → free_by n x j ps ≡ Free (j + lowest is_free ps)
unfolding marked
lowest-marked zero x j ps h l m = absurd (omega arith)
lowest-marked (suc n) x j ps h l m =
    lowest_by n x j ps _ refl h m
    (λ (w : 64 ≤ lowest is_free ps) (q : lowest is_free ps ≡ 64 + lowest is_free (drop 64 ps)).
    let g : lowest is_free ps / 64 ≡ suc (lowest is_free (drop 64 ps) / 64) = omega arith in
    lowest-marked n (x / 2) (j + 64) (drop 64 ps) (omega (arith, length-drop 64 ps)) (omega (arith, length-drop 64 ps))
    (marked-rest (lowest is_free (drop 64 ps) / 64) x (rw g at m)))

-- ---- a group with a free place has one
lowest-cons : (p : Slot) (ps : List Slot) (k : ℕ) (x : Bool) → is_free p ≡ x → lowest is_free ps ≤ k → lowest is_free (p ∷ ps) ≤ suc k
unfolding lowest
lowest-cons p ps k true e h = rw e (omega arith)
lowest-cons p ps k false e h = rw e (omega arith)

no-higher : (ps : List Slot) (k : ℕ) → free_at ps k ≡ true → lowest is_free ps ≤ k
unfolding free_at lowest
no-higher [] k h = omega arith
no-higher (p ∷ ps) zero h = rw h (omega arith)
no-higher (p ∷ ps) (suc k) h = lowest-cons p ps k _ refl (no-higher ps k h)

free-taken : (j : ℕ) (ps : List Slot) (k : ℕ) → k < j → free_at ps k ≡ true → free_at (take j ps) k ≡ true
unfolding free_at
free-taken zero ps k l h = absurd (omega arith)
free-taken (suc j) [] k l h = h
free-taken (suc j) (p ∷ ps) zero l h = h
free-taken (suc j) (p ∷ ps) (suc k) l h = free-taken j ps k (omega arith) h

free-dropped : (j : ℕ) (ps : List Slot) (k : ℕ) → free_at ps (j + k) ≡ true → free_at (drop j ps) k ≡ true
unfolding free_at
free-dropped zero ps k h = rw (zero-add k) at h
free-dropped (suc j) [] k h = h
free-dropped (suc j) (p ∷ ps) k h =
    let e : suc j + k ≡ suc (j + k) = omega arith in
    let g : free_at (p ∷ ps) (suc (j + k)) ≡ true = rw e at h in
    free-dropped j ps k g

pub group-has : (ps : List Slot) (k : ℕ) → free_at ps k ≡ true → has is_free (group_at (k / 64) ps) ≡ true
unfolding has
group-has ps k h =
    let e : 64 * (k / 64) + k % 64 ≡ k = omega arith in
    let f : free_at ps (64 * (k / 64) + k % 64) ≡ true = rw e h in
    let g : free_at (group_at (k / 64) ps) (k % 64) ≡ true =
    free-taken 64 (drop (64 * (k / 64)) ps) (k % 64) (omega arith) (free-dropped (64 * (k / 64)) ps (k % 64) f) in
    lt-ltb (lowest is_free (group_at (k / 64) ps)) (length (group_at (k / 64) ps))
    (omega (arith, no-higher (group_at (k / 64) ps) (k % 64) g, free-inside (group_at (k / 64) ps) (k % 64) g))

pub free-set : (ps : List Slot) (k : ℕ) (p : Slot) → k < length ps → is_free p ≡ true → free_at (set ps k p) k ≡ true
unfolding free_at
free-set [] k p l h = absurd (omega arith)
free-set (q ∷ ps) zero p l h = h
free-set (q ∷ ps) (suc k) p l h = free-set ps k p (omega arith) h
