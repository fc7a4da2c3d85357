-- The marks of the groups of 64 addresses: right ones stay right and find what a walk of all addresses finds; with wrong ones the first
-- marked group that has a free address counts; and a call marks the group that it writes to anew, and no other.
use Rattle.std.specs.Prelude.{ℕ, ◌+◌, ◌*◌, ◌/◌, ◌<◌, ◌≡◌, true, false, List, length, Ok, Err}
use Rattle.refusal.specs.declared.Refusal.TheVariants.{Full}
use Rattle.refusal.specs.Verdict.{Verdict}
use Rattle.address_slots.specs.Slot.{Slot, held_by, is_free, lowest, has, slot_found}
use Rattle.address_slots.specs.Marks.{marked, group_at, marks_of}
use Rattle.address_ledger.specs.Ledger.{Outcome, outcome, counted_of, places_of, judged_of, opened, granting, granted, given_back}
use Rattle.address_ledger.specs.declared.ledger.Ledger.{Ledger}

-- ---- right marks
abbrev pub RightMarks : Ledger → List ℕ → Type 0
RightMarks l m = l.summary ≡ marks_of 64 (places_of l m)

pub record MarksStay : Type 0 where
  -- a group is marked exactly where one of its addresses is free
  pub say : (ps : List Slot) (g : ℕ) → g < 64 → marked g (marks_of 64 ps) ≡ has is_free (group_at g ps)
  pub opens : (first size : ℕ) (m : List ℕ) → RightMarks (opened first size m).ledger m
  pub grants : (l : Ledger) (m b : List ℕ) → length b ≡ 8 → RightMarks l m → RightMarks (granted l m b).ledger (granted l m b).memory
  pub gives_back : (l : Ledger) (m b : List ℕ) → RightMarks l m → RightMarks (given_back l m b).ledger (given_back l m b).memory

-- ---- granting by a walk of all places, FULL included: what right marks give too
unfoldable pub walked_by : Verdict → Ledger → List ℕ → List ℕ → Outcome
walked_by (Ok tt) l m b = granting (counted_of l) l m b (slot_found b (places_of l m))
walked_by (Err r) l m b = outcome (Err r) l m

unfoldable pub AsWalked : Type 0
AsWalked = (l : Ledger) (m b : List ℕ) → RightMarks l m → granted l m b ≡ walked_by (judged_of l m) l m b

-- ---- any marks, of a board that holds no address
abbrev pub NoneBelow : ℕ → List Slot → ℕ → Type 0
NoneBelow x ps n = (g : ℕ) → g < n → marked g x ≡ true → has is_free (group_at g ps) ≡ false

-- the group of place k is marked by its addresses as they are now, every other as it was
pub record MarkedAnew (l : Ledger) (k : ℕ) (o : Outcome) : Type 0 where
  pub own : marked (k / 64) o.ledger.summary ≡ has is_free (group_at (k / 64) (places_of l o.memory))
  pub others : (g : ℕ) → (g ≡ k / 64 → ⊥) → marked g o.ledger.summary ≡ marked g l.summary

pub record AnyMarks : Type 0 where
  pub first : (l : Ledger) (m b : List ℕ) → Ok tt ≡ judged_of l m → has (held_by b) (places_of l m) ≡ false
      → (g : ℕ) → g < 64 → marked g l.summary ≡ true → has is_free (group_at g (places_of l m)) ≡ true
      → NoneBelow l.summary (places_of l m) g
      → (granted l m b).answer ≡ Ok (l.first + (64 * g + lowest is_free (group_at g (places_of l m))))
  pub full : (l : Ledger) (m b : List ℕ) → Ok tt ≡ judged_of l m → has (held_by b) (places_of l m) ≡ false
      → NoneBelow l.summary (places_of l m) 64 → granted l m b ≡ outcome (Err Full) l m
  pub granted-new : (l : Ledger) (m b : List ℕ) (k : ℕ) → has (held_by b) (places_of l m) ≡ false
      → (granted l m b).answer ≡ Ok (l.first + k)
      → MarkedAnew l k (granted l m b)
  pub given_back_lem : (l : Ledger) (m b : List ℕ) (k : ℕ) → (given_back l m b).answer ≡ Ok (l.first + k)
      → MarkedAnew l k (given_back l m b)
  -- which after a give back has a free address
  pub given-marked : (l : Ledger) (m b : List ℕ) (k : ℕ) → (given_back l m b).answer ≡ Ok (l.first + k)
      → marked (k / 64) (given_back l m b).ledger.summary ≡ true
