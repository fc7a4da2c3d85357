-- A journal with an end that is no record is read to that end, and every call of it is made again.
use Rattle.std.specs.Prelude.{Ok}
use Prim.Native.Nat.{ℕ, zero, suc, ◌+◌, ◌≤◌, ◌<◌}
use mathlib.Core.Path.{◌≡◌, ap, ◌∙◌}
use mathlib.Core.Bool.{true}
use mathlib.Core.Logic.{⊎_elim}
use mathlib.Core.List.{List, [], ◌∷◌, ◌++◌, append_assoc}
use native.Mathlib.Omega.{arith}
use borrow.Author.Tests.{le-leb, lt-ltb}
use lib.Dec.{eqb}
use lib.ListN.{length, take, drop, length-append}
use Rattle.lemmas.specs.logic.Tests.{both_true}
use lib.Seq.{take_all, take_at, drop_at}
use Rattle.lemmas.specs.lists.SameLemmas.{same_refl}
use Rattle.address_ledger.specs.declared.ledger.Ledger.{Ledger}
use Rattle.address_ledger_laws.specs.History.{Moment, step, run, whole_boards}
use Rattle.address_journal.specs.Format.{zero_record}
use Rattle.address_journal.specs.Resume.{Resumed, resumed, restart, resume_record, resume_records, go_on}
use Rattle.address_journal.specs.Resume.{Step}
use Rattle.address_journal.specs.declared.resume.ResumeStep.TheVariants.{Taken, Cut}
use Rattle.address_journal_laws.specs.Journal.{Change, grants, backs, call_of, calls_of, entry, records_from, check_from}
use Rattle.address_journal_laws.proofs.Entries.{CallLaws, Quiet, Loud, entries}

pub record End (t : List ℕ) : Type 0 where
  pub few : length t ≤ 16
  pub cut : (l : Ledger) (m : List ℕ) (c : ℕ) → resume_record l m c (take 16 t) ≡ resumed (Ok Cut) l c m

pub end_short : (t : List ℕ) → length t < 16 → End t
unfolding resume_record
end_short t h = record { few = omega arith; cut = λ l m c. rw (take_all 16 t (omega arith), lt-ltb (length t) 16 h) }

pub end-zeros : End zero_record
unfolding resume_record
end-zeros = record { few = omega arith; cut = λ l m c. rw (same_refl zero_record) }

stops : (f : ℕ) (x : Step) (l : Ledger) (m : List ℕ) (c k : ℕ) (t : List ℕ) → End t
    → resume_records (suc f) (resumed x l c m) k t ≡ restart (resumed (Ok Cut) l c m) k
unfolding resume_records go_on
stops f x l m c k t e = rw (e.cut l m c, le-leb _ _ e.few)

goes : (f : ℕ) (x : Step) (l : Ledger) (m : List ℕ) (c k : ℕ) (bytes : List ℕ) (l' : Ledger) (c' : ℕ) (m' : List ℕ)
    → resume_record l m c (take 16 bytes) ≡ resumed (Ok Taken) l' c' m'
    → resume_records (suc f) (resumed x l c m) k bytes ≡ resume_records f (resumed (Ok Taken) l' c' m') (k + 16) (drop 16 bytes)
unfolding resume_records go_on
goes f x l m c k bytes l' c' m' e = rw e

quiet-move : (f k : ℕ) (s s' : Resumed) → s ≡ s' → (b r t : List ℕ) → b ≡ [] → (z : Resumed)
    → resume_records f s' k (r ++ t) ≡ restart z (k + length r) → resume_records f s k ((b ++ r) ++ t) ≡ restart z (k + length (b ++ r))
quiet-move f k s s' p b r t q z h = rw (p, q) h

loud-move : (f k : ℕ) (x : Step) (l : Ledger) (m : List ℕ) (c : ℕ) (b r t : List ℕ) → length b ≡ 16
    → (l' : Ledger) (c' : ℕ) (m' : List ℕ)
    → resume_record l m c b ≡ resumed (Ok Taken) l' c' m' → (z : Resumed)
    → resume_records f (resumed (Ok Taken) l' c' m') (k + 16) (r ++ t) ≡ restart z (k + 16 + length r)
    → resume_records (suc f) (resumed x l c m) k ((b ++ r) ++ t) ≡ restart z (k + length (b ++ r))
loud-move f k x l m c b r t e l' c' m' g z h =
    let n : k + 16 + length r ≡ k + length (b ++ r) = omega (arith, length-append b r, e) in
    goes f x l m c k ((b ++ r) ++ t) l' c' m' (rw (append_assoc b r t, take_at b (r ++ t) 16 e) g)
    ∙ rw (append_assoc b r t, drop_at b (r ++ t) 16 e) h
    ∙ ap (λ (j : ℕ). restart z j) n

abbrev Walked : ℕ → ℕ → List ℕ → List Change → Moment → ℕ → Type 0
Walked first size t cs s c =
    (f k : ℕ) (x : Step) → length (records_from first size s c cs ++ t) < f
    → resume_records f (resumed x s.ledger c s.memory) k (records_from first size s c cs ++ t)
    ≡ restart (resumed (Ok Cut) (run first size s (calls_of cs)).ledger (check_from first size s c cs) (run first size s
    (calls_of cs)).memory) (k + length (records_from first size s c cs))

module _ (first size : ℕ) (t : List ℕ) (q : Change) (cs : List Change) (s : Moment) (c : ℕ)
    (ih : Walked first size t cs (step first size s (call_of q)) (entry s c q).check) where
  quiet-turn : Quiet first size s c q → Walked first size t (q ∷ cs) s c
  unfolding records_from check_from calls_of run
  quiet-turn y f k x h =
      let same : resumed x s.ledger c s.memory ≡ resumed x (step first size s (call_of q)).ledger (entry s c q).check
      (step first size s (call_of q)).memory =
      rw (y.ledger, y.check, y.memory) in
      let r = records_from first size (step first size s (call_of q)) (entry s c q).check cs in
      quiet-move f k _ _ same (entry s c q).bytes r t y.bytes _
      (ih f k x (omega (arith, h, length-append ((entry s c q).bytes ++ r) t, length-append (entry s c q).bytes r, length-append r t)))

  loud-turn : Loud first size s c q → Walked first size t (q ∷ cs) s c
  unfolding records_from check_from calls_of run
  loud-turn y zero k x h = absurd (omega arith)
  loud-turn y (suc f) k x h =
      let r = records_from first size (step first size s (call_of q)) (entry s c q).check cs in
      loud-move f k x s.ledger s.memory c (entry s c q).bytes r t y.long
      (step first size s (call_of q)).ledger (entry s c q).check (step first size s (call_of q)).memory y.taken _
      (ih f (k + 16) (Ok Taken) (omega (
        arith,
        h,
        y.long,
        length-append ((entry s c q).bytes ++ r) t,
        length-append
            (entry s c q).bytes r,
        length-append r t,
      )))

pub first-whole : (q : Change) (cs : List Change) → whole_boards (calls_of (q ∷ cs)) ≡ true
    → (whole_boards (calls_of (q ∷ [])) ≡ true) × (whole_boards (calls_of cs) ≡ true)
unfolding calls_of whole_boards
first-whole (grants b) cs w = let u = both_true (eqb (length b) 8) (whole_boards (calls_of cs)) w in (rw u.0, u.1)
first-whole (backs b) cs w = let u = both_true (eqb (length b) 8) (whole_boards (calls_of cs)) w in (rw u.0, u.1)

pub walks : CallLaws → (first size : ℕ) (t : List ℕ) → End t → (cs : List Change) (s : Moment) (c : ℕ) → whole_boards (calls_of cs) ≡ true
    → Walked first size t cs s c
unfolding records_from check_from calls_of run
walks w first size t e [] s c a zero k x h = absurd (omega arith)
walks w first size t e [] s c a (suc f) k x h =
    let n : k ≡ k + 0 = omega arith in
    stops f x s.ledger s.memory c k t e ∙ ap (λ (j : ℕ). restart (resumed (Ok Cut) s.ledger c s.memory) j) n
walks w first size t e (q ∷ cs) s c a f k x h =
    let u = first-whole q cs a in
    let ih = walks w first size t e cs (step first size s (call_of q)) (entry s c q).check u.1 in
    ⊎_elim (λ y. quiet-turn first size t q cs s c ih y f k x h) (λ y. loud-turn first size t q cs s c ih y f k x h)
    (entries w first size s c q u.0)
