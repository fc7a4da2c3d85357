-- The holdings that a list of places shows, the lowest address first, and what writing one place does to them.
use Prim.Native.Nat.{ℕ, zero, suc, ◌+◌, ◌≤◌, ◌<◌}
use mathlib.Core.Path.{◌≡◌, refl, sym, ap, ◌∙◌}
use mathlib.Core.Bool.{Bool, true, false, cond}
use mathlib.Core.Logic.{⊎_elim}
use mathlib.Core.List.{List, [], ◌∷◌, Memᴰ}
use native.Mathlib.Omega.{arith}
use borrow.Author.Tests.{lt-ltb, le-ltb, ne_eqb}
use lib.Dec.{eqb, ltb, leb-suc-suc}
use lib.ListN.{length, set}
use Rattle.address_slots.specs.Slot.{Slot, same, is_free, held_by, lowest, count_free}
use Rattle.address_slots.proofs.Offers.{free_at}
use Rattle.address_ledger_laws.specs.History.{Holding, listed, taken, address_of, enter, strike}

abbrev pub holding : List ℕ → ℕ → Holding
holding b a = record { board = b; address = a }

unfoldable pub held_from : ℕ → List Slot → List Holding
held_from a [] = []
held_from a (p ∷ ps) = cond (eqb p.mark 1) (holding p.board a ∷ held_from (suc a) ps) (held_from (suc a) ps)

-- a board is listed exactly where a place is held by it
listed_cons : (a : ℕ) (b : List ℕ) (p : Slot) (ps : List Slot) (x y : Bool) → eqb p.mark 1 ≡ x → same 8 p.board b ≡ y
    → listed b (held_from (suc a) ps) ≡ ltb (lowest (held_by b) ps) (length ps)
    → listed b (held_from a (p ∷ ps)) ≡ ltb (lowest (held_by b) (p ∷ ps)) (length (p ∷ ps))
unfolding held_from listed lowest held_by
listed_cons a b p ps true true e f ih = rw (e, f) (sym (lt-ltb 0 (suc (length ps)) (omega arith)))
listed_cons a b p ps true false e f ih = rw (e, f) (ih ∙ sym (leb-suc-suc (suc (lowest (held_by b) ps)) (length ps)))
listed_cons a b p ps false y e f ih = rw e (ih ∙ sym (leb-suc-suc (suc (lowest (held_by b) ps)) (length ps)))

pub listed-held : (a : ℕ) (b : List ℕ) (ps : List Slot) → listed b (held_from a ps) ≡ ltb (lowest (held_by b) ps) (length ps)
unfolding held_from listed lowest
listed-held a b [] = sym (le-ltb 0 0 (omega arith))
listed-held a b (p ∷ ps) = listed_cons a b p ps (eqb p.mark 1) (same 8 p.board b) refl refl (listed-held (suc a) b ps)

-- the lowest place of a board is freed: its first holding is struck
strike-cons : (a : ℕ) (b : List ℕ) (f p : Slot) (ps : List Slot) (x y : Bool) → eqb f.mark 1 ≡ false
    → eqb p.mark 1 ≡ x → same 8 p.board b ≡ y
    → (lowest (held_by b) ps < length ps → strike b (held_from (suc a) ps) ≡ held_from (suc a) (set ps (lowest (held_by b) ps) f))
    → lowest (held_by b) (p ∷ ps) < length (p ∷ ps)
    → strike b (held_from a (p ∷ ps)) ≡ held_from a (set (p ∷ ps) (lowest (held_by b) (p ∷ ps)) f)
unfolding held_from strike lowest held_by
strike-cons a b f p ps true true n e s ih h = rw (e, s, n)
strike-cons a b f p ps true false n e s ih h =
    let g : suc (lowest (held_by b) ps) < suc (length ps) = rw (e, s) at h in
    rw (e, s) (rw (e) (ap (λ (hs : List Holding). holding p.board a ∷ hs) (ih (omega arith))))
strike-cons a b f p ps false y n e s ih h =
    let g : suc (lowest (held_by b) ps) < suc (length ps) = rw e at h in
    rw e (rw e (ih (omega arith)))

pub strike-held : (a : ℕ) (b : List ℕ) (f : Slot) (ps : List Slot) → eqb f.mark 1 ≡ false → lowest (held_by b) ps < length ps
    → strike b (held_from a ps) ≡ held_from a (set ps (lowest (held_by b) ps) f)
strike-held a b f [] n h = absurd (omega arith)
strike-held a b f (p ∷ ps) n h =
    strike-cons a b f p ps (eqb p.mark 1) (same 8 p.board b) n refl refl (strike-held (suc a) b f ps n) h

-- a free place is held: its holding goes in by its address
enter-front-cons : (g : Holding) (a : ℕ) (p : Slot) (ps : List Slot) (x : Bool) → eqb p.mark 1 ≡ x → g.address < a
    → enter g (held_from (suc a) ps) ≡ g ∷ held_from (suc a) ps → enter g (held_from a (p ∷ ps)) ≡ g ∷ held_from a (p ∷ ps)
unfolding held_from enter
enter-front-cons g a p ps true e h ih = rw (e, lt-ltb g.address a h)
enter-front-cons g a p ps false e h ih = rw e ih

enter-front : (g : Holding) (a : ℕ) (ps : List Slot) → g.address < a → enter g (held_from a ps) ≡ g ∷ held_from a ps
unfolding held_from enter
enter-front g a [] h = refl
enter-front g a (p ∷ ps) h = enter-front-cons g a p ps (eqb p.mark 1) refl h (enter-front g (suc a) ps (omega arith))

enter-here : (a : ℕ) (b : List ℕ) (p : Slot) (ps : List Slot) (x : Bool) → eqb p.mark 1 ≡ x → is_free p ≡ true
    → enter (holding b a) (held_from a (p ∷ ps)) ≡ held_from a (record { mark = 1; board = b } ∷ ps)
unfolding held_from is_free
enter-here a b p ps true e h = let z : false ≡ true = rw e at h in cc
enter-here a b p ps false e h = rw e (enter-front (holding b a) (suc a) ps (omega arith))

enter-cons : (a : ℕ) (b : List ℕ) (p : Slot) (ps : List Slot) (k : ℕ) (x : Bool) → eqb p.mark 1 ≡ x
    → enter (holding b (suc a + k)) (held_from (suc a) ps) ≡ held_from (suc a) (set ps k (record { mark = 1; board = b }))
    → enter (holding b (suc a + k)) (held_from a (p ∷ ps)) ≡ held_from a (p ∷ set ps k (record { mark = 1; board = b }))
unfolding held_from enter
enter-cons a b p ps k true e ih =
    rw (e, le-ltb (suc a + k) a (omega arith)) (ap (λ (hs : List Holding). holding p.board a ∷ hs) ih)
enter-cons a b p ps k false e ih = rw e ih

pub enter-held : (a : ℕ) (b : List ℕ) (ps : List Slot) (k : ℕ) → free_at ps k ≡ true
    → enter (holding b (a + k)) (held_from a ps) ≡ held_from a (set ps k (record { mark = 1; board = b }))
unfolding free_at
enter-held a b [] k h = cc
enter-held a b (p ∷ ps) zero h = let z : a + 0 ≡ a = omega arith in rw z (enter-here a b p ps _ refl h)
enter-held a b (p ∷ ps) (suc k) h =
    let z : a + suc k ≡ suc a + k = omega arith in
    rw z (enter-cons a b p ps k _ refl (enter-held (suc a) b ps k h))

-- held and free are all
both-cons : (a : ℕ) (p : Slot) (ps : List Slot) (x : Bool) → eqb p.mark 1 ≡ x
    → length (held_from (suc a) ps) + count_free ps ≡ length ps → length (held_from a (p ∷ ps)) + count_free (p ∷ ps) ≡ suc (length ps)
unfolding held_from count_free is_free
both-cons a p ps true e ih = rw (e) (omega arith)
both-cons a p ps false e ih = rw (e) (omega arith)

pub held-and-free : (a : ℕ) (ps : List Slot) → length (held_from a ps) + count_free ps ≡ length ps
unfolding held_from count_free
held-and-free a [] = refl
held-and-free a (p ∷ ps) = both-cons a p ps (eqb p.mark 1) refl (held-and-free (suc a) ps)

-- each holding has an address of its own
above-cons : (a : ℕ) (p : Slot) (ps : List Slot) (x : Bool) → eqb p.mark 1 ≡ x
    → ((h : Holding) → Memᴰ h (held_from (suc a) ps) → suc a ≤ h.address)
    → (h : Holding) → Memᴰ h (held_from a (p ∷ ps)) → a ≤ h.address
unfolding held_from
above-cons a p ps true e ih h m =
    let m' : Memᴰ h (holding p.board a ∷ held_from (suc a) ps) = rw e at m in
    ⊎_elim (λ q. let z : h.address ≡ a = ap (λ (g : Holding). g.address) q in omega arith) (λ r. omega (arith, ih h r))
    (mathlib.Core.List.Memᴰ.cases_cons m')
above-cons a p ps false e ih h m = omega (arith, ih h (rw e at m))

above : (a : ℕ) (ps : List Slot) (h : Holding) → Memᴰ h (held_from a ps) → a ≤ h.address
unfolding held_from
above a [] h m = absurd (mathlib.Core.List.Memᴰ.not-nil m)
above a (p ∷ ps) h m = above-cons a p ps (eqb p.mark 1) refl (above (suc a) ps) h m

apart_cons : (a : ℕ) (p : Slot) (ps : List Slot) (x : Bool) → eqb p.mark 1 ≡ x
    → ((g h : Holding) → Memᴰ g (held_from (suc a) ps) → Memᴰ h (held_from (suc a) ps) → g.address ≡ h.address
    → g.board ≡ h.board)
    → (g h : Holding) → Memᴰ g (held_from a (p ∷ ps)) → Memᴰ h (held_from a (p ∷ ps)) → g.address ≡ h.address
    → g.board ≡ h.board
unfolding held_from
apart_cons a p ps false e ih g h mg mh s = ih g h (rw e at mg) (rw e at mh) s
apart_cons a p ps true e ih g h mg mh s =
    let top = holding p.board a in
    let mg' : Memᴰ g (top ∷ held_from (suc a) ps) = rw e at mg in
    let mh' : Memᴰ h (top ∷ held_from (suc a) ps) = rw e at mh in
    ⊎_elim
    (λ q. ⊎_elim
    (λ r. ap (λ (k : Holding). k.board) (q ∙ sym r))
    (λ r. let z : g.address ≡ a = ap (λ (k : Holding). k.address) q in absurd (omega (arith, above (suc a) ps h r)))
    (mathlib.Core.List.Memᴰ.cases_cons mh'))
    (λ q. ⊎_elim
    (λ r. let z : h.address ≡ a = ap (λ (k : Holding). k.address) r in absurd (omega (arith, above (suc a) ps g q)))
    (λ r. ih g h q r s)
    (mathlib.Core.List.Memᴰ.cases_cons mh'))
    (mathlib.Core.List.Memᴰ.cases_cons mg')

pub one-holder : (a : ℕ) (ps : List Slot) (g h : Holding) → Memᴰ g (held_from a ps) → Memᴰ h (held_from a ps)
    → g.address ≡ h.address → g.board ≡ h.board
unfolding held_from
one-holder a [] g h mg mh s = absurd (mathlib.Core.List.Memᴰ.not-nil mg)
one-holder a (p ∷ ps) g h mg mh s = apart_cons a p ps (eqb p.mark 1) refl (one-holder (suc a) ps) g h mg mh s

-- the first holding of a board is that of its lowest place
address-cons : (a : ℕ) (b : List ℕ) (p : Slot) (ps : List Slot) (x y : Bool) → eqb p.mark 1 ≡ x → same 8 p.board b ≡ y
    → (lowest (held_by b) ps < length ps → address_of b (held_from (suc a) ps) ≡ suc a + lowest (held_by b) ps)
    → lowest (held_by b) (p ∷ ps) < length (p ∷ ps) → address_of b (held_from a (p ∷ ps)) ≡ a + lowest (held_by b) (p ∷ ps)
unfolding held_from address_of lowest held_by
address-cons a b p ps true true e s ih h = rw (e, s) (omega arith)
address-cons a b p ps true false e s ih h =
    let g : suc (lowest (held_by b) ps) < suc (length ps) = rw (e, s) at h in
    rw (e, s) (omega (arith, ih (omega arith)))
address-cons a b p ps false y e s ih h =
    let g : suc (lowest (held_by b) ps) < suc (length ps) = rw e at h in
    rw e (omega (arith, ih (omega arith)))

pub address-held : (a : ℕ) (b : List ℕ) (ps : List Slot) → lowest (held_by b) ps < length ps
    → address_of b (held_from a ps) ≡ a + lowest (held_by b) ps
address-held a b [] h = absurd (omega arith)
address-held a b (p ∷ ps) h = address-cons a b p ps (eqb p.mark 1) (same 8 p.board b) refl refl (address-held (suc a) b ps) h

-- no place below the first has a holding here
taken-cons : (a x : ℕ) (p : Slot) (ps : List Slot) (v : Bool) → eqb p.mark 1 ≡ v → x < a → taken x (held_from (suc a) ps) ≡ false
    → taken x (held_from a (p ∷ ps)) ≡ false
unfolding held_from taken
taken-cons a x p ps true e h ih = rw (e, ne_eqb a x (λ (q : a ≡ x). omega arith)) ih
taken-cons a x p ps false e h ih = rw e ih

taken-above : (a x : ℕ) (ps : List Slot) → x < a → taken x (held_from a ps) ≡ false
unfolding held_from taken
taken-above a x [] h = refl
taken-above a x (p ∷ ps) h = taken-cons a x p ps _ refl h (taken-above (suc a) x ps (omega arith))

-- the address of the lowest free place is nobody's
free-cons : (a : ℕ) (p : Slot) (ps : List Slot) (v : Bool) → eqb p.mark 1 ≡ v
    → (lowest is_free ps < length ps → taken (suc a + lowest is_free ps) (held_from (suc a) ps) ≡ false)
    → lowest is_free (p ∷ ps) < suc (length ps) → taken (a + lowest is_free (p ∷ ps)) (held_from a (p ∷ ps)) ≡ false
unfolding held_from taken lowest is_free
free-cons a p ps false e ih h = let z : a + 0 ≡ a = omega arith in rw (e, z) (taken-above (suc a) a ps (omega arith))
free-cons a p ps true e ih h =
    let k = lowest is_free ps in
    let g : suc k < suc (length ps) = rw e at h in
    let z : a + lowest is_free (p ∷ ps) ≡ suc a + k = rw e (omega arith) in
    rw (z, e, ne_eqb a (suc a + k) (λ (q : a ≡ suc a + k). omega arith)) (ih (omega arith))

pub free-nobody : (a : ℕ) (ps : List Slot) → lowest is_free ps < length ps → taken (a + lowest is_free ps) (held_from a ps) ≡ false
free-nobody a [] h = absurd (omega arith)
free-nobody a (p ∷ ps) h = free-cons a p ps _ refl (free-nobody (suc a) ps) h

-- a place that was set is no higher than the lowest of its kind
lowest-set-cons : (q : Slot → Bool) (p f : Slot) (ps : List Slot) (k : ℕ) (v : Bool) → q p ≡ v → lowest q (set ps k f) ≤ k
    → lowest q (p ∷ set ps k f) ≤ suc k
unfolding lowest
lowest-set-cons q p f ps k true e h = rw e (omega arith)
lowest-set-cons q p f ps k false e h = rw e (omega arith)

pub lowest_set : (q : Slot → Bool) (f : Slot) (ps : List Slot) (k : ℕ) → q f ≡ true → k < length ps → lowest q (set ps k f) ≤ k
unfolding lowest
lowest_set q f [] k t h = absurd (omega arith)
lowest_set q f (p ∷ ps) zero t h = rw t (omega arith)
lowest_set q f (p ∷ ps) (suc k) t h = lowest-set-cons q p f ps k _ refl (lowest_set q f ps k t (omega arith))
