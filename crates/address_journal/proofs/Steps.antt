-- The ways out of resuming a record and a header, one law each.
use Rattle.std.specs.Prelude.{Result, Ok, Err}
use Prim.Native.Nat.{ℕ, ◌≤◌, ◌<◌}
use mathlib.Core.Path.{◌≡◌, refl, ap, ◌∙◌}
use mathlib.Core.Bool.{true, false}
use mathlib.Core.List.{List, [], ◌∷◌}
use native.Mathlib.Omega.{arith}
use borrow.Author.Tests.{eq-eqb, ne_eqb, lt-ltb, le-ltb}
use lib.ListN.{length}
use Rattle.lemmas.specs.lists.Same.{same}
use Rattle.refusal.specs.declared.Refusal.{Refusal}
use Rattle.address_ledger.specs.Ledger.{Outcome, outcome, empty_ledger, opened, granted, given_back}
use Rattle.address_ledger.specs.declared.answer.OpenResult.{OpenResult}
use Rattle.address_ledger.specs.declared.ledger.Ledger.{Ledger}
use Rattle.std.specs.Prelude.{Option}
use Rattle.std.specs.Prelude.{Some, None}
use Rattle.address_journal.specs.declared.due.Entry as code
use Rattle.address_journal.specs.Resume.{Step}
use Rattle.address_journal.specs.declared.resume.ResumeStep.TheVariants.{Taken, Cut}
use Rattle.address_journal.specs.declared.resume.ResumeError.TheVariants.{Damaged, Refused}
use Rattle.address_journal.specs.declared.resume.ResumeResult.{ResumeResult}
use Rattle.address_journal.specs.Format.{header_of, header_check, two_at, kind_in, board_in, zero_record}
use Rattle.address_journal.specs.Entry.{Entry, grant_due, back_due, entry_of, written}
use Rattle.address_journal.specs.Resume.{Resumed, resumed, entry_here, outcome_here, begun, opened_as, resume_record, resume_header}

abbrev pub told : Step → Ledger → ℕ → ResumeResult
told s l c = record { step = s; ledger = l; check = c }

-- ---- the call of a kind
module _ (kind : ℕ) (l : Ledger) (m b : List ℕ) where
  module _ (c : ℕ) (e : Entry) (d : Option ℕ) where
    pub here-grant : kind ≡ 1 → e ≡ entry_of 1 b c d → d ≡ grant_due l m b → e ≡ entry_here kind l m b c
    unfolding entry_here
    here-grant k q g = rw (eq-eqb kind 1 k) (q ∙ ap (λ (x : Option ℕ). entry_of 1 b c x) g)

    pub here_back : (kind ≡ 1 → ⊥) → kind ≡ 2 → e ≡ entry_of 2 b c d → d ≡ back_due l m b → e ≡ entry_here kind l m b c
    unfolding entry_here
    here_back j k q g = rw (ne_eqb kind 1 j, eq-eqb kind 2 k) (q ∙ ap (λ (x : Option ℕ). entry_of 2 b c x) g)

    pub here-none : (kind ≡ 1 → ⊥) → (kind ≡ 2 → ⊥) → e ≡ entry_of 0 b c None → e ≡ entry_here kind l m b c
    unfolding entry_here entry_of
    here-none j k q = rw (ne_eqb kind 1 j, ne_eqb kind 2 k) q

  pub call-grant : kind ≡ 1 → (o : Outcome) → o ≡ granted l m b → o ≡ outcome_here kind l m b
  unfolding outcome_here
  call-grant k o e = rw (eq-eqb kind 1 k) e

  pub call_back : (kind ≡ 1 → ⊥) → (o : Outcome) → o ≡ given_back l m b → o ≡ outcome_here kind l m b
  unfolding outcome_here
  call_back k o e = rw (ne_eqb kind 1 k) e

-- ---- a record
not-empty : (s : List ℕ) → 16 ≤ length s → same s [] ≡ false
unfolding same
not-empty [] h = absurd (omega arith)
not-empty (x ∷ s) h = refl

module _ (l : Ledger) (m : List ℕ) (c : ℕ) (s : List ℕ) (r : ResumeResult) where
  pub record-short : length s < 16 → r ≡ told (Ok Cut) l c → resumed r.step r.ledger r.check m ≡ resume_record l m c s
  unfolding resume_record
  record-short h e = rw (lt-ltb _ _ h, e)

  module _ (h : 16 ≤ length s) where
    pub record-zeros : true ≡ same s zero_record → r ≡ told (Ok Cut) l c → resumed r.step r.ledger r.check m ≡ resume_record l m c s
    unfolding resume_record
    record-zeros b e = rw (le-ltb _ _ h, ← b, e)

    module _ (n : false ≡ same s zero_record) (b : List ℕ) (eb : b ≡ board_in s) (e : code.Entry)
        (ew : written e.due e.check ≡ entry_here (kind_in s) l m b c) where
      entry-is : written e.due e.check ≡ entry_here (kind_in s) l m (board_in s) c
      entry-is = ew ∙ ap (λ (x : List ℕ). entry_here (kind_in s) l m x c) eb

      pub record-taken : (own : List ℕ) → e.due ≡ Some own → true ≡ same s own → (ans : Result ℕ Refusal) (l' : Ledger) (m' : List ℕ)
          → outcome ans l' m' ≡ outcome_here (kind_in s) l m b → r ≡ told (Ok Taken) l' e.check
          → resumed r.step r.ledger r.check m' ≡ resume_record l m c s
      unfolding resume_record
      record-taken own d f ans l' m' o q =
          let o' : outcome ans l' m' ≡ outcome_here (kind_in s) l m (board_in s) = o ∙ ap (λ (x : List ℕ). outcome_here
          (kind_in s) l m x) eb in
          rw (le-ltb _ _ h, ← n, ← entry-is, d, ← f, ← o', q)

      pub record-other : (own : List ℕ) → e.due ≡ Some own → false ≡ same s own → r ≡ told (Err Damaged) l c
          → resumed r.step r.ledger r.check m ≡ resume_record l m c s
      unfolding resume_record
      record-other own d f q = rw (le-ltb _ _ h, ← n, ← entry-is, d, ← f, q)

      pub record-undue : e.due ≡ None → r ≡ told (Err Damaged) l c → resumed r.step r.ledger r.check m ≡ resume_record l m c s
      unfolding resume_record
      record-undue d q = rw (le-ltb _ _ h, ← n, ← entry-is, d, not-empty s h, q)

-- ---- the header
module _ (first size : ℕ) (m : List ℕ) (next : ℕ) (en : next ≡ header_check first size) (o : OpenResult) (eo : o ≡ opened first size m)
    (r : ResumeResult) where
  pub begun-taken : o.verdict ≡ Ok tt → r ≡ told (Ok Taken) o.ledger next
      → resumed r.step r.ledger r.check m ≡ opened_as (header_check first size) m (opened first size m)
  unfolding begun
  begun-taken v e = rw (← en, ← eo, v, e)

  pub begun-refused : (x : Refusal) → o.verdict ≡ Err x → (l : Ledger) → l ≡ empty_ledger → r ≡ told (Err (Refused x)) l 0
      → resumed r.step r.ledger r.check m ≡ opened_as (header_check first size) m (opened first size m)
  unfolding begun
  begun-refused x v l el e = rw (← en, ← eo, v, e, el)

module _ (m : List ℕ) (s : List ℕ) (r : ResumeResult) (l : Ledger) (el : l ≡ empty_ledger) where
  pub header-short : length s < 16 → r ≡ told (Ok Cut) l 0 → resumed r.step r.ledger r.check m ≡ resume_header m s
  unfolding resume_header
  header-short h e = rw (lt-ltb _ _ h, e, el)

  module _ (h : 16 ≤ length s) where
    pub header-zeros : true ≡ same s zero_record → r ≡ told (Ok Cut) l 0 → resumed r.step r.ledger r.check m ≡ resume_header m s
    unfolding resume_header
    header-zeros b e = rw (le-ltb _ _ h, ← b, e, el)

    pub header-damaged : false ≡ same s zero_record → (first : ℕ) → first ≡ two_at s 6 → (size : ℕ) → size ≡ two_at s 8 → (w : List ℕ) → w
        ≡ header_of first size
        → false ≡ same s w → r ≡ told (Err Damaged) l 0 → resumed r.step r.ledger r.check m ≡ resume_header m s
    unfolding resume_header
    header-damaged n first ef size es w ew f e =
        let f' : false ≡ same s (header_of (two_at s 6) (two_at s 8)) = rw (← ef, ← es, ← ew) f in
        rw (le-ltb _ _ h, ← n, ← f', e, el)

pub header-taken : (m s : List ℕ) → 16 ≤ length s → false ≡ same s zero_record → (first : ℕ) → first ≡ two_at s 6 → (size : ℕ) → size
    ≡ two_at s 8
    → (w : List ℕ) → w ≡ header_of first size → true ≡ same s w → (x : Resumed) → x ≡ opened_as (header_check first size) m
    (opened first size m)
    → x ≡ resume_header m s
unfolding resume_header
header-taken m s h n first ef size es w ew f x g =
    let f' : true ≡ same s (header_of (two_at s 6) (two_at s 8)) = rw (← ef, ← es, ← ew) f in
    rw (le-ltb _ _ h, ← n, ← f', ← ef, ← es) g
