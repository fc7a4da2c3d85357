-- A call and its entry, put together.
use Prim.Native.Nat.{ℕ}
use mathlib.Core.Path.{◌≡◌, ap, ◌∙◌}
use mathlib.Core.List.{List}
use Rattle.address_ledger.specs.Ledger.{Outcome, outcome}
use Rattle.address_ledger.specs.declared.answer.CallResult.{CallResult}
use Rattle.address_journal.specs.declared.calls.RecordedCall.{RecordedCall}
use Rattle.std.specs.Prelude.{Option}
use Rattle.std.specs.Prelude.{Some, None}
use Rattle.address_journal.specs.declared.due.Entry as code
use Rattle.address_journal.specs.Format.{check_of, record_with}
use Rattle.address_journal.specs.Entry.{entry_of, written, RecordedSpec}

abbrev pub joined : CallResult → code.Entry → RecordedCall
joined d e = record { answer = d.answer; ledger = d.ledger; due = e.due; check = e.check }

-- ---- the bytes of an entry
module _ (kind : ℕ) (b : List ℕ) (c : ℕ) (d : Option ℕ) where
  pub entry-record : (a : ℕ) → d ≡ Some a → (next : ℕ) → next ≡ check_of kind b a c → (s : List ℕ) → s ≡ record_with kind b a next
      → written (Some s) next ≡ entry_of kind b c d
  unfolding entry_of
  entry-record a e next en s es = rw (e, es, en)

  pub entry-none : d ≡ None → written None c ≡ entry_of kind b c d
  unfolding entry_of
  entry-none e = rw e

-- ---- a recorded call
module _ (o : Outcome) (kind : ℕ) (b : List ℕ) (c : ℕ) (due : Option ℕ) where
  pub recorded : (m' : List ℕ) (d : CallResult) → outcome d.answer d.ledger m' ≡ o
      → (e : code.Entry) (own : Option ℕ) → written e.due e.check ≡ entry_of kind b c own → own ≡ due
      → (r : RecordedCall) → r ≡ joined d e
      → RecordedSpec o (entry_of kind b c due) r.answer r.ledger m' r.due r.check
  recorded m' d p e own q g r s = record { outcome = rw s p; entry = rw s (q ∙ ap (λ (x : Option ℕ). entry_of kind b c x) g) }
