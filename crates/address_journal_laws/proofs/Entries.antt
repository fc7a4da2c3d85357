-- A call either appends nothing and changes nothing, or appends a record that is taken again.
use Rattle.std.specs.Prelude.{Result, Ok, Err}
use Rattle.refusal.specs.declared.Refusal.{Refusal}
use Prim.Native.Nat.{ℕ}
use mathlib.Core.Path.{◌≡◌, refl, subst, ap}
use mathlib.Core.Bool.{Bool, true, false}
use mathlib.Core.Logic.{◌⊎◌, inl, inr}
use mathlib.Core.List.{List, [], ◌∷◌}
use native.Mathlib.Nat.{div-add-mod'}
use native.Mathlib.Omega.{arith}
use borrow.Author.Tests.{eqb-true, le-ltb}
use lib.Dec.{eqb}
use lib.ListN.{length, get_or}
use Rattle.lemmas.specs.logic.Tests.{both_true}
use Rattle.lemmas.specs.lists.Same.{same}
use Rattle.lemmas.specs.lists.SameLemmas.{same_refl}
use Rattle.lemmas.specs.lists.Table.{table}
use Rattle.lemmas.specs.lists.TableLemmas.{table-self}
use Rattle.address_slots.specs.Slot.{held_by, has}
use Rattle.address_ledger.specs.Ledger.{places_of, granted, given_back}
use Rattle.address_ledger.specs.Answers.{address_verdict}
use Rattle.address_ledger.specs.declared.ledger.Ledger.{Ledger}
use Rattle.address_ledger_laws.specs.History.{Moment, step, whole_boards}
use Rattle.address_ledger_laws.specs.Counts.{Moves}
use Rattle.address_ledger_laws.specs.Written.{Written}
use Rattle.address_ledger_laws.specs.Demand1.{Demand1, asking, returning, perform}
use Rattle.address_journal.specs.Format.{record_with, record_of, kind_in, board_in, address_in, zero_record}
use Rattle.std.specs.Prelude.{Option}
use Rattle.std.specs.Prelude.{Some, None}
use Rattle.address_journal.specs.declared.resume.ResumeStep.TheVariants.{Taken}
use Rattle.address_journal.specs.Entry.{due_for, grant_due, back_due, entry_of}
use Rattle.address_journal.specs.Resume.{resumed, taken, entry_here, outcome_here, resume_record}
use Rattle.address_journal_laws.specs.Journal.{Change, grants, backs, call_of, calls_of, entry}

-- what is used of the laws of single calls
pub record CallLaws : Type 0 where
  pub moves : Moves
  pub stored : Written
  pub refusals : Demand1

-- ---- what is written is read again
pub record Reads (k : ℕ) (b : List ℕ) (a c : ℕ) : Type 0 where
  pub long : length (record_of k b a c) ≡ 16
  pub kind : kind_in (record_of k b a c) ≡ k
  pub board : board_in (record_of k b a c) ≡ b
  pub address : address_in (record_of k b a c) ≡ a

eight : (b : List ℕ) → length b ≡ 8
    → (get_or b 0 0 ∷ get_or b 1 0 ∷ get_or b 2 0 ∷ get_or b 3 0 ∷ get_or b 4 0 ∷ get_or b 5 0 ∷ get_or b 6 0 ∷ get_or b 7 0 ∷ []) ≡ b
unfolding table
eight b e = table-self b 0 8 (λ i. get_or b i 0) e (λ i h. refl)

reads-eight : (k p q r s t u v w a c : ℕ) → Reads k (p ∷ q ∷ r ∷ s ∷ t ∷ u ∷ v ∷ w ∷ []) a c
unfolding record_with
reads-eight k p q r s t u v w a c = record { long = refl; kind = refl; board = refl; address = div-add-mod' a 256 }

pub reads : (k : ℕ) (b : List ℕ) (a c : ℕ) → length b ≡ 8 → Reads k b a c
reads k b a c e =
    subst (λ (l : List ℕ). Reads k l a c) (eight b e)
    (reads-eight k (get_or b 0 0) (get_or b 1 0) (get_or b 2 0) (get_or b 3 0) (get_or b 4 0) (get_or b 5 0) (get_or b 6 0)
    (get_or b 7 0) a c)

not_zeros : (k : ℕ) (b : List ℕ) (a c : ℕ) → eqb k 0 ≡ false → same (record_of k b a c) zero_record ≡ false
unfolding record_with same
not_zeros k b a c e = rw e

record-again : (kind : ℕ) → eqb kind 0 ≡ false → (l : Ledger) (m b : List ℕ) (a c : ℕ) → length b ≡ 8
    → (entry_here kind l m b c).bytes ≡ record_of kind b a c
    → resume_record l m c (record_of kind b a c) ≡ taken (entry_here kind l m b c) (outcome_here kind l m b)
unfolding resume_record
record-again kind z l m b a c e g =
    let r = reads kind b a c e in
    rw (
      le-ltb (length (record_of kind b a c)) 16 (omega (arith, r.long)),
      not_zeros kind b a c z,
      r.kind,
      r.board,
      g,
      same_refl (record_of kind b a c),
    )

-- ---- nothing is appended, or a record
pub record Quiet (first size : ℕ) (s : Moment) (c : ℕ) (k : Change) : Type 0 where
  pub bytes : (entry s c k).bytes ≡ []
  pub check : (entry s c k).check ≡ c
  pub ledger : (step first size s (call_of k)).ledger ≡ s.ledger
  pub memory : (step first size s (call_of k)).memory ≡ s.memory

pub record Loud (first size : ℕ) (s : Moment) (c : ℕ) (k : Change) : Type 0 where
  pub long : length (entry s c k).bytes ≡ 16
  pub taken : resume_record s.ledger s.memory c (entry s c k).bytes
      ≡ resumed (Ok Taken) (step first size s (call_of k)).ledger (entry s c k).check (step first size s (call_of k)).memory

module _ (w : CallLaws) (first size : ℕ) (s : Moment) (c : ℕ) (b : List ℕ) (e : length b ≡ 8) where
  asked-loud : (a : ℕ) → grant_due s.ledger s.memory b ≡ Some a → Loud first size s c (grants b)
  unfolding entry entry_of entry_here outcome_here step
  asked-loud a q =
      let g : (entry_of 1 b c (grant_due s.ledger s.memory b)).bytes ≡ record_of 1 b a c = rw q in
      record {
        long = rw g (reads 1 b a c e).long;
        taken = rw g (record-again 1 refl s.ledger s.memory b a c e g);
      }

  gave-loud : (a : ℕ) → back_due s.ledger s.memory b ≡ Some a → Loud first size s c (backs b)
  unfolding entry entry_of entry_here outcome_here step
  gave-loud a q =
      let g : (entry_of 2 b c (back_due s.ledger s.memory b)).bytes ≡ record_of 2 b a c = rw q in
      record {
        long = rw g (reads 2 b a c e).long;
        taken = rw g (record-again 2 refl s.ledger s.memory b a c e g);
      }

  no_record : (a : ℕ) → Some a ≡ None → ⊥
  no_record a q = let z : ◌≡◌ {A = ℕ} 0 1 = cc in omega arith

  asked-refused : (x : Result ℕ Refusal) → (granted s.ledger s.memory b).answer ≡ x → due_for x ≡ None
      → ((granted s.ledger s.memory b).ledger ≡ s.ledger) × ((granted s.ledger s.memory b).memory ≡ s.memory)
  unfolding perform
  asked-refused (Ok a) q d = absurd (no_record a d)
  asked-refused (Err r) q d =
      let u = w.refusals.untouched (asking b) s.ledger s.memory r (ap address_verdict q) in
      (u.ledger, u.memory)

  asked-same : (v : Bool) → has (held_by b) (places_of s.ledger s.memory) ≡ v → grant_due s.ledger s.memory b ≡ None
      → ((granted s.ledger s.memory b).ledger ≡ s.ledger) × ((granted s.ledger s.memory b).memory ≡ s.memory)
  unfolding grant_due
  asked-same true h q = (w.moves.granted-again s.ledger s.memory b h, w.stored.granted-again s.ledger s.memory b h)
  asked-same false h q = asked-refused _ refl (rw h at q)

  asked : (d : Option ℕ) → grant_due s.ledger s.memory b ≡ d → Quiet first size s c (grants b) ⊎ Loud first size s c (grants b)
  unfolding entry entry_of step
  asked (Some a) q = inr (asked-loud a q)
  asked None q =
      let u = asked-same _ refl q in
      inl (record { bytes = rw q; check = rw q; ledger = u.0; memory = u.1 })

  gave-refused : (x : Result ℕ Refusal) → (given_back s.ledger s.memory b).answer ≡ x → due_for x ≡ None
      → ((given_back s.ledger s.memory b).ledger ≡ s.ledger) × ((given_back s.ledger s.memory b).memory ≡ s.memory)
  unfolding perform
  gave-refused (Ok a) q d = absurd (no_record a d)
  gave-refused (Err r) q d =
      let u = w.refusals.untouched (returning b) s.ledger s.memory r (ap address_verdict q) in
      (u.ledger, u.memory)

  gave : (d : Option ℕ) → back_due s.ledger s.memory b ≡ d → Quiet first size s c (backs b) ⊎ Loud first size s c (backs b)
  unfolding entry entry_of step back_due
  gave (Some a) q = inr (gave-loud a q)
  gave None q =
      let u = gave-refused _ refl q in
      inl (record { bytes = rw q; check = rw q; ledger = u.0; memory = u.1 })

pub entries : CallLaws → (first size : ℕ) (s : Moment) (c : ℕ) (k : Change) → whole_boards (calls_of (k ∷ [])) ≡ true
    → Quiet first size s c k ⊎ Loud first size s c k
unfolding calls_of whole_boards
entries w first size s c (grants b) h = asked w first size s c b (eqb-true (length b) 8 (both_true (eqb (length b) 8) true h).0) _ refl
entries w first size s c (backs b) h = gave w first size s c b (eqb-true (length b) 8 (both_true (eqb (length b) 8) true h).0) _ refl
