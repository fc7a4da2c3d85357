-- The marks of a ledger from call to call: by the bits for its own group and the others, and by where the marks lead.
use Rattle.std.specs.Prelude.{Result, Ok, Err}
use Rattle.refusal.specs.declared.Refusal.{Refusal}
use Prim.Native.Nat.{ℕ, ◌+◌, ◌*◌, ◌/◌, ◌<◌}
use mathlib.Core.Path.{◌≡◌, refl, sym, ap, ◌∙◌}
use mathlib.Core.Bool.{true, false}
use mathlib.Core.List.{List}
use native.Mathlib.Omega.{arith}
use native.Mathlib.Nat.{zero-add}
use borrow.Author.Tests.{lt-ltb, ltb-false}
use lib.ListN.{length, drop}
use Rattle.address_slots.specs.SlotLemmas.{length-slots}
use Rattle.refusal.specs.Verdict.{Verdict}
use Rattle.address_slots.specs.Slot.{slots, held_by, is_free, lowest, has, slot_found, hold, freed}
use Rattle.address_slots.specs.Marks.{marked, group_at, marks_of, refreshed, slot_found_by}
use Rattle.address_slots.specs.declared.slot.SlotFound.{SlotFound}
use Rattle.address_slots.specs.declared.slot.SlotFound.TheVariants.{Held, Free, Nothing}
use Rattle.address_slots.proofs.Found.{held-within}
use Rattle.address_slots.proofs.Offers.{free_at, held-told, free-inside-of}
use Rattle.address_ledger.specs.range.Range.{judged, counted, Usable}
use Rattle.address_ledger.proofs.range.Judged.{usable}
use Rattle.address_ledger.specs.Ledger.{Outcome, counted_of, places_of, judged_of, opened_by, opened}
use Rattle.address_ledger.specs.Ledger.{granting, granted_by, granted, giving_back, given_back_by, given_back}
use Rattle.address_ledger.specs.declared.ledger.Ledger.{Ledger}
use Rattle.address_ledger.proofs.Calls.{grant-accepted}
use Rattle.address_ledger_laws.specs.Marked.{RightMarks, MarksStay, walked_by, AsWalked, MarkedAnew, AnyMarks}
use Rattle.address_ledger_laws.proofs.Bytes.{places-hold, places-freed, cleared, cleared-is}
use Rattle.address_ledger_laws.proofs.Marking.{own-mark, other-mark, marks-say, refreshed-right}
use Rattle.address_ledger_laws.proofs.Leading.{as-walked, first-marked, none-marked, group-has, free-set}

module _ (l : Ledger) (m : List ℕ) (f : Ok tt ≡ judged_of l m) where
  pub in_use : Usable l.first (length m) (counted_of l)
  in_use = usable l.first l.size (length m) f (counted_of l) refl

  -- ---- right marks find what a walk finds
  found_alike : (b : List ℕ) → RightMarks l m → slot_found_by l.summary b (places_of l m) ≡ slot_found b (places_of l m)
  found_alike b w = rw w (as-walked b (places_of l m) (omega (arith, length-slots (counted_of l) m, in_use.size)))

  pub walk-accepted : (b : List ℕ) → RightMarks l m → granting (counted_of l) l m b (slot_found b (places_of l m)) ≡ granted l m b
  walk-accepted b w =
      grant-accepted l m b f (counted_of l) refl _ (ap (λ (s : SlotFound). granting (counted_of l) l m b s) (sym (found_alike b w)))

  -- ---- right stays right
  module _ (b : List ℕ) (w : RightMarks l m) where
    grant-right : length b ≡ 8 → (s : SlotFound) → s ≡ slot_found_by l.summary b (places_of l m)
        → RightMarks (granting (counted_of l) l m b s).ledger (granting (counted_of l) l m b s).memory
    unfolding granting
    grant-right e (Held k) s = w
    grant-right e (Free k) s =
        let n = counted_of l in
        let i = free-inside-of l.summary b (counted_of l) m k s in
        rw (places-hold n k m b i in_use.room e, w)
        (refreshed-right k (places_of l m) (record { mark = 1; board = b }) (omega (arith, i, in_use.size)))
    grant-right e Nothing s = w

    back-right : (s : SlotFound) → s ≡ slot_found b (places_of l m)
        → RightMarks (giving_back (counted_of l) l m s).ledger (giving_back (counted_of l) l m s).memory
    unfolding giving_back
    back-right (Held k) s =
        let n = counted_of l in
        let i = held-within b (counted_of l) m k s in
        rw (places-freed n k m i in_use.room, w)
        (refreshed-right k (places_of l m) (cleared (drop (9 * k) m)) (omega (arith, i, in_use.size)))
    back-right (Free k) s = w
    back-right Nothing s = w

module _ (l : Ledger) (m b : List ℕ) (w : RightMarks l m) where
  granted-right : length b ≡ 8 → (v : Verdict) → v ≡ judged_of l m → RightMarks (granted_by v l m b).ledger (granted_by v l m b).memory
  unfolding granted_by
  granted-right e (Ok tt) f = grant-right l m f b w e (slot_found_by l.summary b (places_of l m)) refl
  granted-right e (Err r) f = w

  given-right : (v : Verdict) → v ≡ judged_of l m → RightMarks (given_back_by v l m b).ledger (given_back_by v l m b).memory
  unfolding given_back_by
  given-right (Ok tt) f = back-right l m f b w (slot_found b (places_of l m)) refl
  given-right (Err r) f = w

  walked_by_lem : (v : Verdict) → v ≡ judged_of l m → granted_by v l m b ≡ walked_by v l m b
  unfolding granted_by walked_by
  walked_by_lem (Ok tt) f = ap (λ (s : SlotFound). granting (counted_of l) l m b s) (found_alike l m f b w)
  walked_by_lem (Err r) f = refl

opened-right : (first size : ℕ) (m : List ℕ) (v : Verdict) → RightMarks (opened_by v first size m).ledger m
unfolding opened_by counted slots marks_of has lowest
opened-right first size m (Ok tt) = refl
opened-right first size m (Err r) = refl

pub marks_stay : MarksStay
unfolding opened granted given_back
marks_stay =
    record {
      say = marks-say 64;
      opens = λ first size m. opened-right first size m (judged first size (length m));
      grants = λ l m b e w. granted-right l m b w e (judged_of l m) refl;
      gives_back = λ l m b w. given-right l m b w (judged_of l m) refl;
    }

pub walks-alike : AsWalked
unfolding AsWalked granted
walks-alike l m b w = walked_by_lem l m b w (judged_of l m) refl

-- ---- any marks
written : (l : Ledger) (k : ℕ) (m' : List ℕ) → k < 4096 → (o : Outcome) → o.memory ≡ m'
    → o.ledger.summary ≡ refreshed l.summary k (places_of l m')
    → MarkedAnew l k o
unfolding refreshed
written l k m' h o e q =
    record {
      own = rw (q, e, lt-ltb k 4096 h) (own-mark (k / 64) (has is_free (group_at (k / 64) (places_of l m'))) l.summary);
      others = λ g n. rw (q, lt-ltb k 4096 h) (other-mark (k / 64) g (has is_free (group_at (k / 64) (places_of l m'))) l.summary n);
    }

-- an answered address tells its place
pub same_place : (l : Ledger) (k j : ℕ) → ◌≡◌ {A = Result ℕ Refusal} (Ok (l.first + j)) (Ok (l.first + k)) → j ≡ k
same_place l k j e = let z : l.first + j ≡ l.first + k = cc in omega arith

module _ (l : Ledger) (m b : List ℕ) (k : ℕ) (f : Ok tt ≡ judged_of l m) where
  grant-new : (s : SlotFound) → s ≡ slot_found_by l.summary b (places_of l m) → has (held_by b) (places_of l m) ≡ false
      → (granting (counted_of l) l m b s).answer ≡ Ok (l.first + k) → MarkedAnew l k (granting (counted_of l) l m b s)
  unfolding granting has
  grant-new (Held j) s h e =
      let i = held-told l.summary b (places_of l m) j s in
      absurd (omega (arith, i.0, i.1, ltb-false (lowest (held_by b) (places_of l m)) (length (places_of l m)) h))
  grant-new (Free j) s h e =
      let i = free-inside-of l.summary b (counted_of l) m j s in
      let q = same_place l k j e in
      rw (← q) (written l j (hold m j b) (omega (arith, i, (in_use l m f).size)) _ refl refl)
  grant-new Nothing s h e = let z : ◌≡◌ {A = ℕ} 0 1 = cc in absurd (omega arith)

  pub back-new : (s : SlotFound) → s ≡ slot_found b (places_of l m)
      → (giving_back (counted_of l) l m s).answer ≡ Ok (l.first + k) → MarkedAnew l k (giving_back (counted_of l) l m s)
  unfolding giving_back
  back-new (Held j) s e =
      let i = held-within b (counted_of l) m j s in
      let q = same_place l k j e in
      rw (← q) (written l j (freed m j) (omega (arith, i, (in_use l m f).size)) _ refl refl)
  back-new (Free j) s e = let z : ◌≡◌ {A = ℕ} 0 1 = cc in absurd (omega arith)
  back-new Nothing s e = let z : ◌≡◌ {A = ℕ} 0 1 = cc in absurd (omega arith)

  pub back-marked : (s : SlotFound) → s ≡ slot_found b (places_of l m)
      → (giving_back (counted_of l) l m s).answer ≡ Ok (l.first + k)
      → marked (k / 64) (giving_back (counted_of l) l m s).ledger.summary ≡ true
  unfolding giving_back
  back-marked (Held j) s e =
      let i = held-within b (counted_of l) m j s in
      let w = written l j (freed m j) (omega (arith, i, (in_use l m f).size)) (giving_back (counted_of l) l m (Held j)) refl refl in
      let q = same_place l k j e in
      let free : free_at (places_of l (freed m j)) j ≡ true =
      rw (places-freed (counted_of l) j m i (in_use l m f).room)
      (free-set (places_of l m) j (cleared (drop (9 * j) m)) (omega (arith, i, length-slots (counted_of l) m))
      (cleared-is (drop (9 * j) m))) in
      rw (← q) (w.own ∙ group-has (places_of l (freed m j)) j free)
  back-marked (Free j) s e = let z : ◌≡◌ {A = ℕ} 0 1 = cc in absurd (omega arith)
  back-marked Nothing s e = let z : ◌≡◌ {A = ℕ} 0 1 = cc in absurd (omega arith)

module _ (l : Ledger) (m b : List ℕ) (k : ℕ) where
  granted-new : (v : Verdict) → v ≡ judged_of l m → has (held_by b) (places_of l m) ≡ false
      → (granted_by v l m b).answer ≡ Ok (l.first + k)
      → MarkedAnew l k (granted_by v l m b)
  unfolding granted_by
  granted-new (Ok tt) f h e = grant-new l m b k f (slot_found_by l.summary b (places_of l m)) refl h e
  granted-new (Err r) f h e = let z : ◌≡◌ {A = ℕ} 0 1 = cc in absurd (omega arith)

  given-new : (v : Verdict) → v ≡ judged_of l m → (given_back_by v l m b).answer ≡ Ok (l.first + k)
      → MarkedAnew l k (given_back_by v l m b)
  unfolding given_back_by
  given-new (Ok tt) f e = back-new l m b k f (slot_found b (places_of l m)) refl e
  given-new (Err r) f e = let z : ◌≡◌ {A = ℕ} 0 1 = cc in absurd (omega arith)

  given-marked : (v : Verdict) → v ≡ judged_of l m → (given_back_by v l m b).answer ≡ Ok (l.first + k)
      → marked (k / 64) (given_back_by v l m b).ledger.summary ≡ true
  unfolding given_back_by
  given-marked (Ok tt) f e = back-marked l m b k f (slot_found b (places_of l m)) refl e
  given-marked (Err r) f e = let z : ◌≡◌ {A = ℕ} 0 1 = cc in absurd (omega arith)

pub any-marks : AnyMarks
unfolding granted granted_by granting given_back slot_found_by
any-marks =
    record {
      first = λ l m b f h g i t u none. rw (
        ← f,
        h,
        first-marked 64 g l.summary 0 (places_of l m) i t u none,
        zero-add (64 * g + lowest is_free (group_at g (places_of l m))),
      );
      full = λ l m b f h none. rw (← f, h, none-marked 64 l.summary 0 (places_of l m) none);
      granted-new = λ l m b k h e. granted-new l m b k (judged_of l m) refl h e;
      given_back_lem = λ l m b k e. given-new l m b k (judged_of l m) refl e;
      given-marked = λ l m b k e. given-marked l m b k (judged_of l m) refl e;
    }
