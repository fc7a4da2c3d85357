-- Writing one place of the bytes is setting one place of the list of places.
use Prim.Native.Nat.{ℕ, zero, suc, ◌+◌, ◌-◌, ◌*◌, ◌≤◌, ◌<◌}
use mathlib.Core.Path.{◌≡◌, refl, sym, ap, ◌∙◌}
use mathlib.Core.Bool.{true, false}
use mathlib.Core.List.{List, [], ◌∷◌, ◌++◌, append_assoc}
use native.Mathlib.Omega.{arith}
use lib.Dec.{eqb}
use lib.ListN.{length, take, drop, set, length-set, length-drop}
use lib.Seq.{paste, length-paste, drop-paste, take-take, take-add, take_at, drop_at, drop-drop, take_all}
use lib.Seq.{length-take-le, take-set-le, drop-set-lt, drop-set-add, get_or-set_same, get_or-set_other}
use Rattle.address_ledger_laws.specs.Written.{HoldsNow, FreeNow}
use Rattle.address_slots.specs.Slot.{Slot, slot_at, slots, is_free, hold, freed}

-- a place is its nine bytes
place-nine : (m : List ℕ) → slot_at (take 9 m) ≡ slot_at m
unfolding slot_at
place-nine [] = refl
place-nine (x ∷ m) = rw (take-take 8 8 m (omega arith))

same-nine : (m m' : List ℕ) → take 9 m' ≡ take 9 m → slot_at m' ≡ slot_at m
same-nine m m' e = sym (place-nine m') ∙ ap slot_at e ∙ place-nine m

-- two lists that agree up to place k, at place k + 1 and on: the places agree but for k
pub places-set : (n k : ℕ) (m m' : List ℕ) (p : Slot) → k < n → 9 * n ≤ length m → length m' ≡ length m
    → take (9 * k) m' ≡ take (9 * k) m → slot_at (drop (9 * k) m') ≡ p → drop (9 * k + 9) m' ≡ drop (9 * k + 9) m
    → slots n m' ≡ set (slots n m) k p
unfolding slots
places-set zero k m m' p h l w t q d = absurd (omega arith)
places-set (suc n) zero m m' p h l w t q d = rw (d, q)
places-set (suc n) (suc k) m m' p h l w t q d =
    let e : 9 * suc k ≡ 9 + 9 * k = omega arith in
    let z : 9 + 9 * k + 9 ≡ 9 + (9 * k + 9) = omega arith in
    let t' : take (9 + 9 * k) m' ≡ take (9 + 9 * k) m = rw e at t in
    let u : take 9 m' ≡ take 9 m =
    sym (take-take 9 (9 + 9 * k) m' (omega arith)) ∙ ap (λ (l : List ℕ). take 9 l) t' ∙ take-take 9 (9 + 9 * k) m (omega arith) in
    let v : take (9 * k) (drop 9 m') ≡ take (9 * k) (drop 9 m) =
    sym (drop_at (take 9 m') (take (9 * k) (drop 9 m')) 9 (length-take-le 9 m' (omega arith)))
    ∙ ap (λ (l : List ℕ). drop 9 l) (sym (take-add 9 (9 * k) m') ∙ t' ∙ take-add 9 (9 * k) m)
    ∙ drop_at (take 9 m) (take (9 * k) (drop 9 m)) 9 (length-take-le 9 m (omega arith)) in
    let q' : slot_at (drop (9 * k) (drop 9 m')) ≡ p = rw (drop-drop (9 * k) 9 m', ← e) q in
    let d' : drop (9 * k + 9) (drop 9 m') ≡ drop (9 * k + 9) (drop 9 m) =
    rw (drop-drop (9 * k + 9) 9 m', drop-drop (9 * k + 9) 9 m, ← z, ← e) d in
    let i = places-set n k (drop 9 m) (drop 9 m') p (omega arith) (simp length-drop (omega arith))
    (simp length-drop (ap (λ (x : ℕ). x - 9) w)) v q' d' in
    rw (same-nine m m' u, i)

pub length-hold : (m b : List ℕ) (k : ℕ) → 9 * k + 9 ≤ length m → length b ≡ 8 → length (hold m k b) ≡ length m
unfolding hold
length-hold m b k h e = length-paste m (9 * k) (1 ∷ b) 9 h (omega arith)

pub places-hold : (n k : ℕ) (m b : List ℕ) → k < n → 9 * n ≤ length m → length b ≡ 8
    → slots n (hold m k b) ≡ set (slots n m) k (record { mark = 1; board = b })
unfolding hold slot_at
places-hold n k m b h l e =
    let at = 9 * k in
    let room : 9 * k + 9 ≤ length m = omega arith in
    let f : length (take (9 * k) m) ≡ 9 * k = length-take-le (9 * k) m (omega arith) in
    let s : paste m (9 * k) (1 ∷ b) 9 ≡ take (9 * k) m ++ (take 9 (1 ∷ b) ++ drop (9 * k + 9) m) =
    append_assoc (take (9 * k) m) (take 9 (1 ∷ b)) (drop (9 * k + 9) m) in
    let b8 : take 8 b ≡ b = take_all 8 b (omega arith) in
    places-set n k m (paste m (9 * k) (1 ∷ b) 9) (record { mark = 1; board = b }) h l
    (length-paste m (9 * k) (1 ∷ b) 9 room (omega arith))
    (rw s (take_at (take (9 * k) m) (take 9 (1 ∷ b) ++ drop (9 * k + 9) m) (9 * k) f))
    (rw (s, drop_at (take (9 * k) m) (take 9 (1 ∷ b) ++ drop (9 * k + 9) m) (9 * k) f, b8, take_at b (drop (9 * k + 9) m) 8 e))
    (drop-paste m (9 * k) (1 ∷ b) 9 (omega arith) (omega arith))

-- the bytes that holding a place leaves
pub hold-bytes : (m b : List ℕ) (k : ℕ) → 9 * k + 9 ≤ length m → length b ≡ 8 → HoldsNow m k b (hold m k b)
unfolding hold
hold-bytes m b k room e =
    let f : length (take (9 * k) m) ≡ 9 * k = length-take-le (9 * k) m (omega arith) in
    let s : paste m (9 * k) (1 ∷ b) 9 ≡ take (9 * k) m ++ (take 9 (1 ∷ b) ++ drop (9 * k + 9) m) =
    append_assoc (take (9 * k) m) (take 9 (1 ∷ b)) (drop (9 * k + 9) m) in
    let b8 : take 8 b ≡ b = take_all 8 b (omega arith) in
    record {
      place = rw (s, drop_at (take (9 * k) m) (take 9 (1 ∷ b) ++ drop (9 * k + 9) m) (9 * k) f, b8, take_at b (drop (9 * k + 9) m) 8 e);
      before = rw s (take_at (take (9 * k) m) (take 9 (1 ∷ b) ++ drop (9 * k + 9) m) (9 * k) f);
      behind = drop-paste m (9 * k) (1 ∷ b) 9 (omega arith) (omega arith);
    }

-- a place whose mark was set to 0
abbrev pub cleared : List ℕ → Slot
cleared l = slot_at (set l 0 0)

pub cleared-free : (l : List ℕ) → eqb (cleared l).mark 1 ≡ false
unfolding slot_at
cleared-free [] = refl
cleared-free (x ∷ l) = refl

pub cleared-is : (l : List ℕ) → is_free (cleared l) ≡ true
unfolding is_free
cleared-is l = rw (cleared-free l)

pub length-freed : (m : List ℕ) (k : ℕ) → length (freed m k) ≡ length m
unfolding freed
length-freed m k = length-set m (9 * k) 0

pub places-freed : (n k : ℕ) (m : List ℕ) → k < n → 9 * n ≤ length m
    → slots n (freed m k) ≡ set (slots n m) k (cleared (drop (9 * k) m))
unfolding freed
places-freed n k m h l =
    let z : 9 * k + 0 ≡ 9 * k = omega arith in
    places-set n k m (set m (9 * k) 0) (cleared (drop (9 * k) m)) h l (length-set m (9 * k) 0)
    (take-set-le (9 * k) m (9 * k) 0 (omega arith))
    (ap slot_at (rw z at (drop-set-add (9 * k) m 0 0)))
    (drop-set-lt (9 * k + 9) m (9 * k) 0 (omega arith))

-- the bytes that freeing it leaves
pub freed-bytes : (m : List ℕ) (k : ℕ) → 9 * k < length m → FreeNow m k (freed m k)
unfolding freed
freed-bytes m k h =
    record { mark = get_or-set_same m (9 * k) 0 0 h; others = λ i n. get_or-set_other m (9 * k) i 0 0 n }
