-- The count moves with each place that is written, and only then; what is answered never looks at it.
use Rattle.std.specs.Prelude.{Ok, Err}
use Prim.Native.Nat.{ℕ, ◌-◌, ◌*◌, ◌≤◌, ◌<◌}
use mathlib.Core.Path.{◌≡◌, refl}
use mathlib.Core.Bool.{true, false}
use mathlib.Core.List.{List}
use native.Mathlib.Omega.{arith}
use borrow.Author.Tests.{ltb-false}
use lib.ListN.{length, drop}
use Rattle.address_slots.specs.SlotLemmas.{length-slots}
use Rattle.refusal.specs.Verdict.{Verdict}
use Rattle.address_slots.specs.Slot.{slots, held_by, lowest, has, count_free, slot_found}
use Rattle.address_ledger.specs.range.Range.{judged, counted}
use Rattle.address_ledger.specs.Ledger.{counted_of, places_of, judged_of, cut, opened_by, opened, granting}
use Rattle.address_ledger.specs.Ledger.{granted_by, granted, giving_back, given_back_by, given_back}
use Rattle.address_ledger.specs.declared.ledger.Ledger.{Ledger}
use Rattle.address_slots.specs.declared.slot.SlotFound.{SlotFound}
use Rattle.address_slots.specs.declared.slot.SlotFound.TheVariants.{Held, Free, Nothing}
use Rattle.address_ledger.proofs.range.Judged.{usable}
use Rattle.address_slots.specs.Marks.{slot_found_by}
use Rattle.address_slots.proofs.Found.{held-is}
use Rattle.address_slots.proofs.Offers.{free-inside, held-told, free-told}
use Rattle.address_ledger_laws.specs.Counts.{RightCount, RightStays, with_free, SameBut, AnyCount, Moves}
use Rattle.address_ledger_laws.proofs.Bytes.{places-hold, places-freed, cleared, cleared-is}
use Rattle.address_ledger_laws.proofs.Counting.{count_less, count-more}

-- ---- right stays right
module _ (l : Ledger) (m b : List ℕ) (f : Ok tt ≡ judged_of l m) (c : RightCount l m) where
  room : 9 * counted_of l ≤ length m
  room = (usable l.first l.size (length m) f (counted_of l) refl).room

  grant-right : length b ≡ 8 → (s : SlotFound) → s ≡ slot_found_by l.summary b (places_of l m)
      → RightCount (granting (counted_of l) l m b s).ledger (granting (counted_of l) l m b s).memory
  unfolding granting
  grant-right e (Held k) s = c
  grant-right e (Free k) s =
      let n = counted_of l in
      let i = free-told l.summary b (places_of l m) k s in
      let p : length (places_of l m) ≡ counted_of l = length-slots n m in
      let w : k < counted_of l = omega (arith, free-inside (places_of l m) k i.0) in
      rw (places-hold n k m b w room e, c) (count_less n b (places_of l m) k p i.0)
  grant-right e Nothing s = c

  back-right : (s : SlotFound) → s ≡ slot_found b (places_of l m)
      → RightCount (giving_back (counted_of l) l m s).ledger (giving_back (counted_of l) l m s).memory
  unfolding giving_back
  back-right (Held k) s =
      let n = counted_of l in
      let i = held-is b (places_of l m) k s in
      let p : length (places_of l m) ≡ counted_of l = length-slots n m in
      let w : k < counted_of l = omega (arith, i.1) in
      rw (places-freed n k m w room, c, i.0)
      (count-more n b (cleared (drop (9 * lowest (held_by b) (places_of l m)) m)) (places_of l m) p
      (cleared-is (drop (9 * lowest (held_by b) (places_of l m)) m))
      (omega (arith, i.0, i.1)))
  back-right (Free k) s = c
  back-right Nothing s = c

module _ (l : Ledger) (m b : List ℕ) (c : RightCount l m) where
  granted-right : length b ≡ 8 → (v : Verdict) → v ≡ judged_of l m → RightCount (granted_by v l m b).ledger (granted_by v l m b).memory
  unfolding granted_by
  granted-right e (Ok tt) f = grant-right l m b f c e (slot_found_by l.summary b (places_of l m)) refl
  granted-right e (Err r) f = c

  given-right : (v : Verdict) → v ≡ judged_of l m → RightCount (given_back_by v l m b).ledger (given_back_by v l m b).memory
  unfolding given_back_by
  given-right (Ok tt) f = back-right l m b f c (slot_found b (places_of l m)) refl
  given-right (Err r) f = c

opened-right : (first size : ℕ) (m : List ℕ) (v : Verdict) → RightCount (opened_by v first size m).ledger m
unfolding opened_by counted slots count_free
opened-right first size m (Ok tt) = refl
opened-right first size m (Err r) = refl

pub right-stays : RightStays
unfolding opened granted given_back
right-stays =
    record {
      opens = λ first size m. opened-right first size m (judged first size (length m));
      grants = λ l m b e c. granted-right l m b c e (judged_of l m) refl;
      gives_back = λ l m b c. given-right l m b c (judged_of l m) refl;
    }

-- ---- any count
module _ (l : Ledger) (x y n : ℕ) (m b : List ℕ) where
  grant-same : (s : SlotFound) → SameBut (granting n (with_free l x) m b s) (granting n (with_free l y) m b s)
  unfolding granting
  grant-same (Held k) = record { answer = refl; memory = refl; first = refl; size = refl; summary = refl }
  grant-same (Free k) = record { answer = refl; memory = refl; first = refl; size = refl; summary = refl }
  grant-same Nothing = record { answer = refl; memory = refl; first = refl; size = refl; summary = refl }

  back-same : (s : SlotFound) → SameBut (giving_back n (with_free l x) m s) (giving_back n (with_free l y) m s)
  unfolding giving_back
  back-same (Held k) = record { answer = refl; memory = refl; first = refl; size = refl; summary = refl }
  back-same (Free k) = record { answer = refl; memory = refl; first = refl; size = refl; summary = refl }
  back-same Nothing = record { answer = refl; memory = refl; first = refl; size = refl; summary = refl }

module _ (l : Ledger) (x y : ℕ) (m b : List ℕ) where
  granted-same : (v : Verdict) → SameBut (granted_by v (with_free l x) m b) (granted_by v (with_free l y) m b)
  unfolding granted_by
  granted-same (Ok tt) = grant-same l x y (counted_of l) m b (slot_found_by l.summary b (places_of l m))
  granted-same (Err r) = record { answer = refl; memory = refl; first = refl; size = refl; summary = refl }

  given-same : (v : Verdict) → SameBut (given_back_by v (with_free l x) m b) (given_back_by v (with_free l y) m b)
  unfolding given_back_by
  given-same (Ok tt) = back-same l x y (counted_of l) m b (slot_found b (places_of l m))
  given-same (Err r) = record { answer = refl; memory = refl; first = refl; size = refl; summary = refl }

pub any-count : AnyCount
unfolding granted given_back
any-count =
    record {
      grants = λ l x y m b. granted-same l x y m b (judged_of l m);
      gives_back = λ l x y m b. given-same l x y m b (judged_of l m);
    }

-- ---- where it moves
again_by : (l : Ledger) (m b : List ℕ) (v : Verdict) → has (held_by b) (places_of l m) ≡ true → (granted_by v l m b).ledger ≡ l
unfolding granted_by granting slot_found_by
again_by l m b (Ok tt) h = rw h
again_by l m b (Err r) h = refl

module _ (l : Ledger) (m b : List ℕ) (a : ℕ) where
  new-found : (s : SlotFound) → s ≡ slot_found_by l.summary b (places_of l m) → has (held_by b) (places_of l m) ≡ false
      → (granting (counted_of l) l m b s).answer ≡ Ok a
      → (granting (counted_of l) l m b s).ledger.free ≡ cut (counted_of l) (l.free - 1)
  unfolding granting has
  new-found (Held k) s h e =
      let i = held-told l.summary b (places_of l m) k s in
      absurd (omega (arith, i.0, i.1, ltb-false (lowest (held_by b) (places_of l m)) (length (places_of l m)) h))
  new-found (Free k) s h e = refl
  new-found Nothing s h e = let z : ◌≡◌ {A = ℕ} 0 1 = cc in absurd (omega arith)

  new_by : (v : Verdict) → has (held_by b) (places_of l m) ≡ false → (granted_by v l m b).answer ≡ Ok a
      → (granted_by v l m b).ledger.free ≡ cut (counted_of l) (l.free - 1)
  unfolding granted_by
  new_by (Ok tt) h e = new-found (slot_found_by l.summary b (places_of l m)) refl h e
  new_by (Err r) h e = let z : ◌≡◌ {A = ℕ} 0 1 = cc in absurd (omega arith)

pub moves : Moves
unfolding granted given_back given_back_by giving_back slot_found
moves =
    record {
      granted-new = λ l m b a h e. new_by l m b a (judged_of l m) h e;
      granted-again = λ l m b h. again_by l m b (judged_of l m) h;
      given_back_lem = λ l m b f h. rw (← f, h);
    }
