-- The kept count of free addresses, on any memory and after any call: right stays right;
-- a wrong one changes no other answer, and moves as a right one.
use Rattle.std.specs.Prelude.{ℕ, ◌+◌, ◌-◌, ◌≡◌, true, false, List, length, Ok}
use Rattle.address_slots.specs.Slot.{held_by, has, count_free}
use Rattle.address_ledger.specs.Ledger.{Outcome, counted_of, places_of, judged_of, cut, ledger_of, opened, granted, given_back}
use Rattle.address_ledger.specs.declared.ledger.Ledger.{Ledger}

abbrev pub RightCount : Ledger → List ℕ → Type 0
RightCount l m = l.free ≡ count_free (places_of l m)

-- ---- every call, refused or not, leaves a right count right
pub record RightStays : Type 0 where
  pub opens : (first size : ℕ) (m : List ℕ) → RightCount (opened first size m).ledger m
  pub grants : (l : Ledger) (m b : List ℕ) → length b ≡ 8 → RightCount l m → RightCount (granted l m b).ledger (granted l m b).memory
  pub gives_back : (l : Ledger) (m b : List ℕ) → RightCount l m → RightCount (given_back l m b).ledger (given_back l m b).memory

-- ---- any two counts get the same answer, the same memory and the same marks
abbrev pub with_free : Ledger → ℕ → Ledger
with_free l free = ledger_of l.first l.size free l.summary

pub record SameBut (o p : Outcome) : Type 0 where
  pub answer : o.answer ≡ p.answer
  pub memory : o.memory ≡ p.memory
  pub first : o.ledger.first ≡ p.ledger.first
  pub size : o.ledger.size ≡ p.ledger.size
  pub summary : o.ledger.summary ≡ p.ledger.summary

pub record AnyCount : Type 0 where
  pub grants : (l : Ledger) (x y : ℕ) (m b : List ℕ) → SameBut (granted (with_free l x) m b) (granted (with_free l y) m b)
  pub gives_back : (l : Ledger) (x y : ℕ) (m b : List ℕ) → SameBut (given_back (with_free l x) m b) (given_back (with_free l y) m b)

-- ---- it moves by one where an address changes hands, is then cut to 0 or how many count, and else stays
pub record Moves : Type 0 where
  pub granted-new : (l : Ledger) (m b : List ℕ) (a : ℕ) → has (held_by b) (places_of l m) ≡ false → (granted l m b).answer ≡ Ok a
      → (granted l m b).ledger.free ≡ cut (counted_of l) (l.free - 1)
  pub granted-again : (l : Ledger) (m b : List ℕ) → has (held_by b) (places_of l m) ≡ true → (granted l m b).ledger ≡ l
  pub given_back_lem : (l : Ledger) (m b : List ℕ) → Ok tt ≡ judged_of l m → has (held_by b) (places_of l m) ≡ true
      → (given_back l m b).ledger.free ≡ cut (counted_of l) (l.free + 1)
