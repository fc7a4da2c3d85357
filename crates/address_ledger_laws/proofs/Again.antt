-- A freed address is granted again: giving back marks its group, whatever the summary said before, so a board that holds none is led to a
-- free place; and where every lower address is held, the lowest free place is in that group, and it is the freed one.
use Rattle.std.specs.Prelude.{Ok, Err}
use Prim.Native.Nat.{ℕ, ◌+◌, ◌-◌, ◌*◌, ◌/◌, ◌≤◌, ◌<◌}
use mathlib.Core.Path.{◌≡◌, refl, sym, ◌∙◌}
use mathlib.Core.Bool.{Bool, true, false}
use mathlib.Core.List.{List}
use native.Mathlib.Omega.{arith}
use native.Mathlib.Nat.{zero-add}
use borrow.Author.Tests.{ltb-true, ltb-false}
use lib.Dec.{ltb}
use lib.ListN.{drop}
use Rattle.address_slots.specs.SlotLemmas.{length-slots}
use Rattle.refusal.specs.declared.Refusal.{Refusal}
use Rattle.address_slots.specs.Slot.{lowest, has, held_by, is_free, slot_found}
use Rattle.address_slots.specs.Marks.{marked, group_at, free_by, slot_found_by}
use Rattle.address_ledger.specs.Ledger.{counted_of, places_of, judged_of, granting, granted, giving_back, given_back}
use Rattle.address_ledger.specs.declared.ledger.Ledger.{Ledger}
use Rattle.address_slots.specs.declared.slot.SlotFound.{SlotFound}
use Rattle.address_slots.specs.declared.slot.SlotFound.TheVariants.{Held, Free, Nothing}
use Rattle.address_slots.proofs.Found.{held-is}
use Rattle.address_ledger.proofs.Calls.{grant-accepted, back-accepted}
use Rattle.address_ledger_laws.specs.History.{gives, listed, taken, Moment, step, after}
use Rattle.address_ledger_laws.specs.Laws.{FreedAgain}
use Rattle.address_ledger_laws.proofs.Bytes.{places-freed, cleared, cleared-is}
use Rattle.address_ledger_laws.proofs.Holders.{free-nobody, lowest_set}
use Rattle.address_ledger_laws.proofs.Leading.{some-marked, lowest-marked}
use Rattle.address_ledger_laws.proofs.Marks.{in_use, back-new, back-marked}
use Rattle.address_ledger_laws.proofs.Histories.{Agrees, own_range, told, gives-agrees, after-agrees}

-- address a was just freed: its group has a free place and is marked
record Freed (l : Ledger) (m : List ℕ) (a : ℕ) : Type 0 where
  above : l.first ≤ a
  below : a < l.first + counted_of l
  lower : lowest is_free (places_of l m) ≤ a - l.first
  vacant : has is_free (group_at ((a - l.first) / 64) (places_of l m)) ≡ true
  mark : marked ((a - l.first) / 64) l.summary ≡ true

module _ (l : Ledger) (m b : List ℕ) (f : Ok tt ≡ judged_of l m) (a : ℕ) where
  freed-by : (x : SlotFound) → x ≡ slot_found b (places_of l m) → (giving_back (counted_of l) l m x).answer ≡ Ok a
      → Freed (giving_back (counted_of l) l m x).ledger (giving_back (counted_of l) l m x).memory a
  unfolding giving_back
  freed-by (Held k) x e =
      let n = counted_of l in
      let i = held-is b (places_of l m) k x in
      let z : l.first + k ≡ a = cc in
      let w : k < counted_of l = omega (arith, i.1, length-slots (counted_of l) m) in
      let j : a - l.first ≡ k = omega arith in
      let new = back-new l m b k f (Held k) x refl in
      let mark = back-marked l m b k f (Held k) x refl in
      let low = lowest_set is_free (cleared (drop (9 * k) m)) (places_of l m) k (cleared-is (drop (9 * k) m)) i.1 in
      record {
        above = omega arith;
        below = omega arith;
        lower = rw (places-freed n k m w (in_use l m f).room, j) low;
        vacant = rw j (sym new.own ∙ mark);
        mark = rw j mark;
      }
  freed-by (Free k) x e = let z : ◌≡◌ {A = ℕ} 0 1 = cc in absurd (omega arith)
  freed-by Nothing x e = let z : ◌≡◌ {A = ℕ} 0 1 = cc in absurd (omega arith)

  freed-in : (given_back l m b).answer ≡ Ok a → Freed (given_back l m b).ledger (given_back l m b).memory a
  freed-in e =
      let d = back-accepted l m b f (counted_of l) refl _ refl in
      rw (← d) (freed-by _ refl (rw (← d) at e))

-- a board that holds none is granted what the summary leads to
module _ (l : Ledger) (m c : List ℕ) (f : Ok tt ≡ judged_of l m) (y : has (held_by c) (places_of l m) ≡ false) where
  led : granted l m c ≡ granting (counted_of l) l m c (free_by 64 l.summary 0 (places_of l m))
  unfolding slot_found_by
  led = sym (grant-accepted l m c f (counted_of l) refl _ (rw y))

  refused-by : (r : Refusal) (x : SlotFound) → (granting (counted_of l) l m c x).answer ≡ Err r → x ≡ Nothing
  unfolding granting
  refused-by r (Held k) e = let z : ◌≡◌ {A = ℕ} 0 1 = cc in absurd (omega arith)
  refused-by r (Free k) e = let z : ◌≡◌ {A = ℕ} 0 1 = cc in absurd (omega arith)
  refused-by r Nothing e = refl

  module _ (a : ℕ) (d : Freed l m a) where
    found : (r : Refusal) → (granted l m c).answer ≡ Err r → ⊥
    found r e =
        let inside : (a - l.first) / 64 < 64 = omega (arith, d.below, (in_use l m f).size) in
        some-marked 64 ((a - l.first) / 64) l.summary 0 (places_of l m) inside d.mark d.vacant
        (refused-by r (free_by 64 l.summary 0 (places_of l m)) (rw led at e))

    found-lowest : l.first + lowest is_free (places_of l m) ≡ a → (granted l m c).answer ≡ Ok a
    unfolding granting
    found-lowest e =
        let p = length-slots (counted_of l) m in
        let g : a - l.first ≡ lowest is_free (places_of l m) = omega (arith, d.above) in
        let k = lowest-marked 64 l.summary 0 (places_of l m) (omega (arith, d.above, d.below))
        (omega (arith, (in_use l m f).size)) (rw g at d.mark) in
        rw (led, k, zero-add (lowest is_free (places_of l m)), e)

module _ (first size : ℕ) (s : Moment) (g : Agrees first size s) (c : List ℕ) (y : listed c s.holding ≡ false) (a : ℕ)
    (d : Freed s.ledger s.memory a) where
  some : (r : Refusal) → (granted s.ledger s.memory c).answer ≡ Err r → ⊥
  some r e = found s.ledger s.memory c (own_range first size s g).accepted (told first size s g c ∙ y) a d r e

  same_by : ((x : ℕ) → s.ledger.first ≤ x → x < a → taken x s.holding ≡ true) → (v : Bool)
      → ltb (lowest is_free (places_of s.ledger s.memory)) (a - s.ledger.first) ≡ v
      → s.ledger.first + lowest is_free (places_of s.ledger s.memory) ≡ a
  same_by h true e =
      let l = s.ledger in
      let ps = places_of l s.memory in
      let k = lowest is_free (places_of s.ledger s.memory) in
      let w : lowest is_free (places_of s.ledger s.memory) < a - s.ledger.first = ltb-true _ _ e in
      let t : taken (s.ledger.first + lowest is_free (places_of s.ledger s.memory)) s.holding ≡ true =
      h (s.ledger.first + k) (omega arith) (omega (arith, d.above)) in
      let f : taken (s.ledger.first + lowest is_free (places_of s.ledger s.memory)) s.holding ≡ false =
      rw (own_range first size s g).tells
      (free-nobody s.ledger.first ps (omega (arith, d.above, d.below, length-slots (counted_of l) s.memory))) in
      let z : true ≡ false = sym t ∙ f in
      cc
  same_by h false e =
      omega (arith, d.above, d.lower, ltb-false (lowest is_free (places_of s.ledger s.memory)) (a - s.ledger.first) e)

  again : ((x : ℕ) → first ≤ x → x < a → taken x s.holding ≡ true) → (granted s.ledger s.memory c).answer ≡ Ok a
  again h =
      found-lowest s.ledger s.memory c (own_range first size s g).accepted (told first size s g c ∙ y) a d
      (same_by (rw g.starts h) _ refl)

freed-step : (first size : ℕ) (s : Moment) (b : List ℕ) (a : ℕ) → Agrees first size s
    → (given_back s.ledger s.memory b).answer ≡ Ok a
    → Freed (step first size s (gives b)).ledger (step first size s (gives b)).memory a
unfolding step
freed-step first size s b a g e = freed-in s.ledger s.memory b (own_range first size s g).accepted a e

pub freed-again : FreedAgain
freed-again =
    record {
      some = λ first size m cs w b c a e s q y r.
          let g = after-agrees first size m cs w in
          some first size s (rw q (gives-agrees first size (after first size m cs) b g)) c y a
          (rw q (freed-step first size (after first size m cs) b a g e)) r;
      again = λ first size m cs w b c a e s q y h.
          let g = after-agrees first size m cs w in
          again first size s (rw q (gives-agrees first size (after first size m cs) b g)) c y a
          (rw q (freed-step first size (after first size m cs) b a g e)) h;
    }
