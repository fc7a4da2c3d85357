-- Demand 1: each way out of a call that refuses hands back what came in, and the tests of the definitions are those of the numbers.
use Rattle.std.specs.Prelude.{Ok, Err}
use Prim.Native.Nat.{ℕ, zero, suc, ◌+◌, ◌*◌, ◌/◌}
use mathlib.Core.Path.{◌≡◌, refl}
use mathlib.Core.Bool.{Bool, true, false, cond, ◌&&◌, ◌||◌}
use mathlib.Core.List.{List}
use native.Mathlib.Omega.{arith}
use lib.Dec.{leb}
use lib.ListN.{length, take, drop}
use Rattle.refusal.specs.Verdict.{verdict_number}
use Rattle.refusal.specs.declared.Refusal.{Refusal}
use Rattle.refusal.specs.Verdict.{Verdict}
use Rattle.address_slots.specs.Slot.{Slot, held_by, is_free, has, slot_found}
use Rattle.address_slots.specs.Marks.{marked, free_by, slot_found_by}
use Rattle.address_ledger.specs.range.Range.{in_limits, judged}
use Rattle.address_ledger.specs.Ledger.{Outcome, counted_of, places_of, judged_of, empty_ledger, opened_by, opened}
use Rattle.address_ledger.specs.Ledger.{granting, granted_by, granted, giving_back, given_back_by, given_back, free_count}
use Rattle.address_ledger.specs.Answers.{address_verdict, address_value, free_verdict, free_value}
use Rattle.address_ledger.specs.declared.ledger.Ledger.{Ledger}
use Rattle.address_slots.specs.declared.slot.SlotFound.{SlotFound}
use Rattle.address_slots.specs.declared.slot.SlotFound.TheVariants.{Held, Free, Nothing}
use Rattle.address_ledger_laws.specs.Demand1.{LedgerCall, opening, asking, returning, counting}
use Rattle.address_ledger_laws.specs.Demand1.{perform, Untouched, offers, refusal_number, Demand1}

-- ---- a refusal leaves everything
record Left (l : Ledger) (m : List ℕ) (o : Outcome) : Type 0 where
  value : address_value o.answer ≡ 0
  ledger : o.ledger ≡ l
  memory : o.memory ≡ m

accepted-not : (r : Refusal) → ◌≡◌ {A = Verdict} (Ok tt) (Err r) → ⊥
accepted-not r e = let z : ◌≡◌ {A = ℕ} 0 1 = cc in omega arith

module _ (n : ℕ) (l : Ledger) (m b : List ℕ) (r : Refusal) where
  grant-found : (s : SlotFound) → address_verdict (granting n l m b s).answer ≡ Err r → Left l m (granting n l m b s)
  unfolding granting
  grant-found (Held k) e = absurd (accepted-not r e)
  grant-found (Free k) e = absurd (accepted-not r e)
  grant-found Nothing e = record { value = refl; ledger = refl; memory = refl }

  back_found : (s : SlotFound) → address_verdict (giving_back n l m s).answer ≡ Err r → Left l m (giving_back n l m s)
  unfolding giving_back
  back_found (Held k) e = absurd (accepted-not r e)
  back_found (Free k) e = record { value = refl; ledger = refl; memory = refl }
  back_found Nothing e = record { value = refl; ledger = refl; memory = refl }

module _ (l : Ledger) (m b : List ℕ) (r : Refusal) where
  grant-left : (v : Verdict) → address_verdict (granted_by v l m b).answer ≡ Err r → Left l m (granted_by v l m b)
  unfolding granted_by
  grant-left (Ok tt) e = grant-found (counted_of l) l m b r (slot_found_by l.summary b (places_of l m)) e
  grant-left (Err x) e = record { value = refl; ledger = refl; memory = refl }

  back-left : (v : Verdict) → address_verdict (given_back_by v l m b).answer ≡ Err r → Left l m (given_back_by v l m b)
  unfolding given_back_by
  back-left (Ok tt) e = back_found (counted_of l) l m b r (slot_found b (places_of l m)) e
  back-left (Err x) e = record { value = refl; ledger = refl; memory = refl }

free-left : (l : Ledger) (r : Refusal) (x : Bool) → in_limits l.first l.size ≡ x → free_verdict (free_count l) ≡ Err r
    → free_value (free_count l) ≡ 0
unfolding free_count
free-left l r true q e = absurd (accepted-not r (rw q at e))
free-left l r false q e = rw q

open-left : (first size : ℕ) (m : List ℕ) (r : Refusal) (v : Verdict) → (opened_by v first size m).verdict ≡ Err r
    → (opened_by v first size m).ledger ≡ empty_ledger
unfolding opened_by
open-left first size m r (Ok tt) e = absurd (accepted-not r e)
open-left first size m r (Err x) e = refl

untouched : (c : LedgerCall) (l : Ledger) (m : List ℕ) (r : Refusal) → (perform c l m).verdict ≡ Err r
    → Untouched c l m (perform c l m)
unfolding perform opened granted given_back
untouched (opening first size) l m r e =
    record { value = refl; ledger = open-left first size m r (judged first size (length m)) e; memory = refl }
untouched (asking b) l m r e =
    let p = grant-left l m b r (judged_of l m) e in
    record { value = p.value; ledger = p.ledger; memory = p.memory }
untouched (returning b) l m r e =
    let p = back-left l m b r (judged_of l m) e in
    record { value = p.value; ledger = p.ledger; memory = p.memory }
untouched counting l m r e = record { value = free-left l r _ refl e; ledger = refl; memory = refl }

-- ---- the numbers
offer-cons : (n x j : ℕ) (ps : List Slot) (c : ℕ) (l : Ledger) (m b : List ℕ) (t : Bool) → (marked zero x && has is_free (take 64 ps)) ≡ t
    → verdict_number (address_verdict (granting c l m b (free_by n (x / 2) (j + 64) (drop 64 ps))).answer)
    ≡ cond (offers n (x / 2) (drop 64 ps)) 0 17
    → verdict_number (address_verdict (granting c l m b (free_by (suc n) x j ps)).answer) ≡ cond (offers (suc n) x ps) 0 17
unfolding free_by offers granting
offer-cons n x j ps c l m b true t ih = rw t
offer-cons n x j ps c l m b false t ih = rw t ih

offer : (n x j : ℕ) (ps : List Slot) (c : ℕ) (l : Ledger) (m b : List ℕ)
    → verdict_number (address_verdict (granting c l m b (free_by n x j ps)).answer) ≡ cond (offers n x ps) 0 17
unfolding free_by offers granting
offer zero x j ps c l m b = refl
offer (suc n) x j ps c l m b = offer-cons n x j ps c l m b _ refl (offer n (x / 2) (j + 64) (drop 64 ps) c l m b)

grant-own : (l : Ledger) (m b : List ℕ) (x : Bool) → has (held_by b) (places_of l m) ≡ x
    → verdict_number (address_verdict (granting (counted_of l) l m b (slot_found_by l.summary b (places_of l m))).answer)
    ≡ cond (has (held_by b) (places_of l m) || offers 64 l.summary (places_of l m)) 0 17
unfolding granting slot_found_by
grant-own l m b true p = rw p
grant-own l m b false p = rw p (offer 64 l.summary 0 (places_of l m) (counted_of l) l m b)

back-own : (l : Ledger) (m b : List ℕ) (x y : Bool) → has (held_by b) (places_of l m) ≡ x → has is_free (places_of l m) ≡ y
    → verdict_number (address_verdict (giving_back (counted_of l) l m (slot_found b (places_of l m))).answer)
    ≡ cond (has (held_by b) (places_of l m)) 0 18
unfolding giving_back slot_found
back-own l m b true y p q = rw p
back-own l m b false true p q = rw (p, q)
back-own l m b false false p q = rw (p, q)

module _ (l : Ledger) (m : List ℕ) where
  number-open : (first size : ℕ) (p q : Bool) → in_limits first size ≡ p → leb (9 * size) (length m) ≡ q
      → verdict_number (perform (opening first size) l m).verdict ≡ refusal_number (opening first size) l m
  unfolding perform opened opened_by judged refusal_number
  number-open first size true true e f = rw (e, f)
  number-open first size true false e f = rw (e, f)
  number-open first size false q e f = rw e

  number-ask : (b : List ℕ) (p q : Bool) → in_limits l.first l.size ≡ p → leb (9 * l.size) (length m) ≡ q
      → verdict_number (perform (asking b) l m).verdict ≡ refusal_number (asking b) l m
  unfolding perform granted granted_by judged refusal_number
  number-ask b true true e f = rw (e, f) (grant-own l m b _ refl)
  number-ask b true false e f = rw (e, f)
  number-ask b false q e f = rw e

  number-return : (b : List ℕ) (p q : Bool) → in_limits l.first l.size ≡ p → leb (9 * l.size) (length m) ≡ q
      → verdict_number (perform (returning b) l m).verdict ≡ refusal_number (returning b) l m
  unfolding perform given_back given_back_by judged refusal_number
  number-return b true true e f = rw (e, f) (back-own l m b _ _ refl refl)
  number-return b true false e f = rw (e, f)
  number-return b false q e f = rw e

  number-count : (p : Bool) → in_limits l.first l.size ≡ p
      → verdict_number (perform counting l m).verdict ≡ refusal_number counting l m
  unfolding perform free_count refusal_number
  number-count true e = rw e
  number-count false e = rw e

numbers : (c : LedgerCall) (l : Ledger) (m : List ℕ) → verdict_number (perform c l m).verdict ≡ refusal_number c l m
numbers (opening first size) l m = number-open l m first size _ _ refl refl
numbers (asking b) l m = number-ask l m b _ _ refl refl
numbers (returning b) l m = number-return l m b _ _ refl refl
numbers counting l m = number-count l m _ refl

pub refusals : Demand1
refusals = record { untouched = untouched; numbers = numbers }
