-- Every call keeps a ledger that an image can hold: what is opened ends at FFFF at most, no more are free than there are, and there is a
-- mark for each of 64 groups.
use Rattle.std.specs.Prelude.{Ok, Err}
use Prim.Native.Nat.{ℕ, zero, suc, ◌+◌, ◌-◌, ◌*◌, ◌/◌, ◌^◌, ◌≤◌, ◌<◌}
use mathlib.Core.Path.{◌≡◌, refl, ap}
use mathlib.Core.Bool.{Bool, true, false, cond, ◌&&◌}
use mathlib.Core.List.{List, [], ◌∷◌}
use native.Mathlib.Omega.{arith}
use native.Mathlib.Nat.{pow-suc}
use borrow.Author.Tests.{ltb-true, leb-true}
use lib.Dec.{leb, ltb}
use lib.ListN.{length, take, drop}
use Rattle.lemmas.specs.logic.Tests.{both_left, both_right}
use Rattle.refusal.specs.Verdict.{verdict_number}
use Rattle.refusal.specs.Verdict.{Verdict}
use Rattle.short_address.specs.Address.{is_address, bytes_of}
use Rattle.address_slots.specs.Marks.{bit, with_mark, group_at, group_of, marks_of, refreshed, slot_found_by}
use Rattle.address_slots.specs.Slot.{Slot, slots, is_free, has, count_free, hold, freed, slot_found}
use Rattle.address_slots.specs.declared.slot.SlotFound.{SlotFound}
use Rattle.address_slots.specs.declared.slot.SlotFound.TheVariants.{Held, Free, Nothing}
use Rattle.address_ledger.specs.range.Range.{in_limits, judged, counted}
use Rattle.address_ledger.specs.Ledger.{counted_of, places_of, judged_of, cut, opened, opened_by, granted}
use Rattle.address_ledger.specs.Ledger.{granted_by, granting, given_back, given_back_by, giving_back}
use Rattle.address_ledger.specs.declared.ledger.Ledger.{Ledger}
use Rattle.address_ledger_laws.specs.Demand1.{asking, returning, perform}
use Rattle.state_image.specs.Ledger.{ledger_image}

record Fits (l : Ledger) : Type 0 where
  first : l.first < 65536
  size : l.size < 65536
  free : l.free < 65536
  marks : l.summary < 2 ^ 64

by-image : (l : Ledger) → ledger_image.Fit l → Fits l
by-image l f = record { first = f.0; size = f.1.0; free = f.1.1.0; marks = f.1.1.1 }

in_image : (l : Ledger) → Fits l → ledger_image.Fit l
in_image l f = (f.first, (f.size, (f.free, f.marks)))

-- ---- marks
bit-most : (b : Bool) → bit b ≤ 1
bit-most true = omega arith
bit-most false = omega arith

marked-below : (g n : ℕ) (b : Bool) (x : ℕ) → g < n → x < 2 ^ n → with_mark g b x < 2 ^ n
unfolding with_mark
marked-below g zero b x h k = absurd (omega arith)
marked-below zero (suc n) b x h k =
    let l : x < 2 ^ n * 2 = rw (pow-suc 2 n) at k in
    rw (pow-suc 2 n) (omega (arith, bit-most b))
marked-below (suc g) (suc n) b x h k =
    let l : x < 2 ^ n * 2 = rw (pow-suc 2 n) at k in
    rw (pow-suc 2 n) (omega (arith, marked-below g n b (x / 2) (omega arith) (omega arith)))

marks-below : (n : ℕ) (ps : List Slot) → marks_of n ps < 2 ^ n
unfolding marks_of
marks-below zero ps = omega arith
marks-below (suc n) ps = rw (pow-suc 2 n) (omega (arith, bit-most (has is_free (take 64 ps)), marks-below n (drop 64 ps)))

refreshed-by : (t b : Bool) (x k : ℕ) → ltb k 4096 ≡ t → x < 2 ^ 64 → cond t (with_mark (group_of k) b x) x < 2 ^ 64
refreshed-by true b x k e h = let l : k < 4096 = ltb-true k 4096 e in marked-below (k / 64) 64 b x (omega arith) h
refreshed-by false b x k e h = h

refreshed-below : (x k : ℕ) (ps : List Slot) → x < 2 ^ 64 → refreshed x k ps < 2 ^ 64
unfolding refreshed
refreshed-below x k ps h = refreshed-by (ltb k 4096) (has is_free (group_at (group_of k) ps)) x k refl h

-- ---- counts
counted-most : (first n : ℕ) → counted first n ≤ n
unfolding counted
counted-most first zero = omega arith
counted-most first (suc n) = pick (is_address (bytes_of first)) (counted-most (suc first) n)
  where
    pick : (b : Bool) {x : ℕ} → x ≤ n → cond b (suc x) x ≤ suc n
    pick true h = omega arith
    pick false h = omega arith

places-many : (n : ℕ) (m : List ℕ) → length (slots n m) ≡ n
unfolding slots
places-many zero m = refl
places-many (suc n) m = ap suc (places-many n (drop 9 m))

free-most : (ps : List Slot) → count_free ps ≤ length ps
unfolding count_free
free-most [] = omega arith
free-most (p ∷ ps) = pick (is_free p) (free-most ps)
  where
    pick : (b : Bool) {x : ℕ} → x ≤ length ps → cond b (suc x) x ≤ suc (length ps)
    pick true h = omega arith
    pick false h = omega arith

cut_most : (n x : ℕ) → cut n x ≤ n
cut_most n x = by (leb x n) refl
  where
    by : (b : Bool) → leb x n ≡ b → cond b x n ≤ n
    by true e = leb-true x n e
    by false e = omega arith

-- ---- the calls
module _ (l : Ledger) (m b : List ℕ) (f : Fits l) where
  granting-fits : (n : ℕ) (s : SlotFound) → n < 65536 → Fits (granting n l m b s).ledger
  unfolding granting
  granting-fits n (Held k) h = f
  granting-fits n (Free k) h =
      record {
        first = f.first;
        size = f.size;
        free = omega (arith, cut_most n (l.free - 1));
        marks = refreshed-below l.summary k (slots n (hold m k b)) f.marks;
      }
  granting-fits n Nothing h = f

  giving-fits : (n : ℕ) (s : SlotFound) → n < 65536 → Fits (giving_back n l m s).ledger
  unfolding giving_back
  giving-fits n (Held k) h =
      record {
        first = f.first;
        size = f.size;
        free = omega (arith, cut_most n (l.free + 1));
        marks = refreshed-below l.summary k (slots n (freed m k)) f.marks;
      }
  giving-fits n (Free k) h = f
  giving-fits n Nothing h = f

  few : counted_of l < 65536
  few = omega (arith, counted-most l.first l.size, f.size)

  granted-by : (v : Verdict) → Fits (granted_by v l m b).ledger
  unfolding granted_by
  granted-by (Ok tt) = granting-fits (counted_of l) (slot_found_by l.summary b (places_of l m)) few
  granted-by (Err r) = f

  granted-fits : Fits (granted l m b).ledger
  unfolding granted
  granted-fits = granted-by (judged_of l m)

  given_by : (v : Verdict) → Fits (given_back_by v l m b).ledger
  unfolding given_back_by
  given_by (Ok tt) = giving-fits (counted_of l) (slot_found b (places_of l m)) few
  given_by (Err r) = f

  given-fits : Fits (given_back l m b).ledger
  unfolding given_back
  given-fits = given_by (judged_of l m)

-- ---- a range that is accepted is in its limits
record Within (first size : ℕ) : Type 0 where
  some : 1 ≤ size
  few : size ≤ 4096
  end : first + size ≤ 65536

within : (first size len : ℕ) (b : Bool) → in_limits first size ≡ b → judged first size len ≡ Ok tt → Within first size
unfolding judged in_limits
within first size len true e h =
    let rest = both_right (leb 1 size) (leb size 4096 && leb (first + size) 65536) e in
    record {
      some = leb-true 1 size (both_left (leb 1 size) (leb size 4096 && leb (first + size) 65536) e);
      few = leb-true size 4096 (both_left (leb size 4096) (leb (first + size) 65536) rest);
      end = leb-true (first + size) 65536 (both_right (leb size 4096) (leb (first + size) 65536) rest);
    }
within first size len false e h =
    let z : ◌≡◌ {A = ℕ} 13 0 = ap verdict_number (rw e at h) in
    absurd (omega arith)

module _ (first size : ℕ) (m : List ℕ) where
  opened-by : (v : Verdict) → judged first size (length m) ≡ v → Fits (opened_by v first size m).ledger
  unfolding opened_by
  opened-by (Ok tt) e =
      let h = within first size (length m) (in_limits first size) refl e in
      record {
        first = omega (arith, h.some, h.end);
        size = omega (arith, h.few);
        free =
            omega (arith, h.few, counted-most first size, places-many (counted first size) m, free-most (slots (counted first size) m));
        marks = marks-below 64 (slots (counted first size) m);
      }
  opened-by (Err r) e = record { first = omega arith; size = omega arith; free = omega arith; marks = omega arith }

  pub opened-fits : ledger_image.Fit (opened first size m).ledger
  unfolding opened
  opened-fits = in_image (opened first size m).ledger (opened-by (judged first size (length m)) refl)

module _ (b : List ℕ) (l : Ledger) (m : List ℕ) (f : ledger_image.Fit l) where
  pub asked-fits : ledger_image.Fit (perform (asking b) l m).ledger
  unfolding perform
  asked-fits = in_image (granted l m b).ledger (granted-fits l m b (by-image l f))

  pub returned-fits : ledger_image.Fit (perform (returning b) l m).ledger
  unfolding perform
  returned-fits = in_image (given_back l m b).ledger (given-fits l m b (by-image l f))
