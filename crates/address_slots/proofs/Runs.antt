-- Taking and dropping places is taking fewer of them, from further on in the bytes: so a group is a run of places.
use Prim.Native.Nat.{ℕ, zero, suc, ◌+◌, ◌-◌, ◌*◌, ◌/◌, ◌≤◌, ◌<◌, min}
use mathlib.Core.Path.{◌≡◌, refl, sym, ap, ◌∙◌}
use mathlib.Core.Bool.{Bool, true, false, cond, not}
use mathlib.Core.List.{List, [], ◌∷◌, ◌++◌}
use native.Mathlib.Omega.{arith}
use native.Mathlib.Nat.{zero-add}
use borrow.Author.Tests.{lt-ltb, le-ltb, ne_eqb}
use lib.Dec.{eqb}
use lib.ListN.{length, take, drop}
use Rattle.std.specs.Option.{is_some}
use Rattle.std.specs.Prelude.{Option, Some, None}
use Rattle.address_slots.proofs.Scan.{ltb-suc}
use lib.Seq.{drop-drop}
use Rattle.address_slots.specs.Slot.{Slot, slots, is_free, lowest, has, lowest_from, count_free}
use Rattle.address_slots.specs.Marks.{group_at, with_mark, refreshed}

pub places-take : (j n : ℕ) (m : List ℕ) → take j (slots n m) ≡ slots (min j n) m
unfolding slots
places-take zero n m = let e : min 0 n ≡ 0 = omega arith in rw e
places-take (suc j) zero m = let e : min (suc j) 0 ≡ 0 = omega arith in rw e
places-take (suc j) (suc n) m =
    let e : min (suc j) (suc n) ≡ suc (min j n) = omega arith in
    rw (e, places-take j n (drop 9 m))

pub places-drop : (j n : ℕ) (m : List ℕ) → drop j (slots n m) ≡ slots (n - j) (drop (9 * j) m)
unfolding slots
places-drop zero n m = let e : n - 0 ≡ n = omega arith in rw e
places-drop (suc j) zero m = let e : 0 - suc j ≡ 0 = omega arith in rw e
places-drop (suc j) (suc n) m =
    let e : suc n - suc j ≡ n - j = omega arith in
    let f : 9 * suc j ≡ 9 + 9 * j = omega arith in
    rw (e, f, ← drop-drop (9 * j) 9 m) (places-drop j n (drop 9 m))

-- group g of n places, which ends at `end`
pub group-places : (g n end : ℕ) (m : List ℕ) → end ≡ min (64 * g + 64) n
    → group_at g (slots n m) ≡ slots (end - 64 * g) (drop (9 * (64 * g)) m)
group-places g n end m e =
    let f : min 64 (n - 64 * g) ≡ end - 64 * g = omega arith in
    ap (λ (ps : List Slot). take 64 ps) (places-drop (64 * g) n m)
    ∙ places-take 64 (n - 64 * g) (drop (9 * (64 * g)) m)
    ∙ ap (λ (x : ℕ). slots x (drop (9 * (64 * g)) m)) f

-- ---- the lowest free place of a group
module _ (g n end : ℕ) (m : List ℕ) (e : end ≡ min (64 * g + 64) n) where
  pub group-free : (r : Option ℕ) → r ≡ lowest_from is_free (64 * g) (slots (end - 64 * g) (drop (9 * (64 * g)) m))
      → r ≡ lowest_from is_free (64 * g) (group_at g (slots n m))
  group-free r f = rw (group-places g n end m e) f

some-by : (b : Bool) (k : ℕ) → is_some (cond b (Some k) None) ≡ b
some-by true k = refl
some-by false k = refl

pub some-free : (j : ℕ) (ps : List Slot) (r : Option ℕ) → r ≡ lowest_from is_free j ps → is_some r ≡ has is_free ps
some-free j ps r e = rw e (some-by (has is_free ps) (j + lowest is_free ps))

-- ---- counting free places
append-cons : (p : Slot) (ps qs : List Slot) (x : Bool) → is_free p ≡ x → count_free (ps ++ qs) ≡ count_free ps + count_free qs
    → count_free (p ∷ (ps ++ qs)) ≡ count_free (p ∷ ps) + count_free qs
unfolding count_free
append-cons p ps qs true e h = rw e (omega arith)
append-cons p ps qs false e h = rw e h

pub count-append : (ps qs : List Slot) → count_free (ps ++ qs) ≡ count_free ps + count_free qs
unfolding count_free
count-append [] qs = sym (zero-add (count_free qs))
count-append (p ∷ ps) qs = append-cons p ps qs _ refl (count-append ps qs)

has-cons : (p : Slot) (ps : List Slot) (x : Bool) → is_free p ≡ x → has is_free ps ≡ not (eqb (count_free ps) 0)
    → has is_free (p ∷ ps) ≡ not (eqb (count_free (p ∷ ps)) 0)
unfolding has lowest count_free
has-cons p ps true e h =
    let some : eqb (suc (count_free ps)) 0 ≡ false = ne_eqb (suc (count_free ps)) 0 (λ (z : suc (count_free ps) ≡ 0). omega arith) in
    rw e (lt-ltb 0 (suc (length ps)) (omega arith) ∙ sym (ap (λ (z : Bool). not z) some))
has-cons p ps false e h = rw e (ltb-suc (lowest is_free ps) (length ps) ∙ h)

-- a free place is there where some are counted
pub has-count : (ps : List Slot) → has is_free ps ≡ not (eqb (count_free ps) 0)
unfolding has lowest count_free
has-count [] = refl
has-count (p ∷ ps) = has-cons p ps _ refl (has-count ps)

-- ---- marking anew
module _ (x k : ℕ) where
  pub refreshed-over : (ps : List Slot) → 4096 ≤ k → x ≡ refreshed x k ps
  unfolding refreshed
  refreshed-over ps h = rw (le-ltb k 4096 h)

  pub refreshed-there : (ps : List Slot) → k < 4096 → (b : Bool) → b ≡ has is_free (group_at (k / 64) ps) → (y : ℕ)
      → y ≡ with_mark (k / 64) b x → y ≡ refreshed x k ps
  unfolding refreshed
  refreshed-there ps h b e y f = rw (lt-ltb k 4096 h, ← e) f
