-- A step by what is read at its place: the trace's end is read where no byte is left and nowhere else, and a record's first byte tells
-- how far it goes.
use Prim.Native.Nat.{ℕ, ◌+◌, ◌<◌}
use mathlib.Core.Path.{◌≡◌, refl, sym, ap}
use mathlib.Core.Bool.{Bool, true, false}
use mathlib.Core.List.{List, [], ◌∷◌}
use native.Mathlib.Omega.{arith}
use borrow.Author.Tests.{le-leb, lt-leb}
use lib.ListN.{length, drop, length-drop}
use Rattle.trace_record.specs.Layout.{record_size, entry, EntriesSay}
use Rattle.trace.specs.Trace.{Record, Reading, end, bad, got, reading, is_admissible}
use Rattle.trace.specs.Step.{advance, step}
use Rattle.trace.specs.Progress.{StepSays, StepsSay}
use Rattle.trace.specs.declared.state.State.{State}
use Rattle.trace.proofs.Contiguity.{first_byte}
use Rattle.trace.proofs.Turns.{Taken, taken}

-- where no byte is left the end is read
none_left : (s : List ℕ) (g : Reading) → reading s ≡ g → (g ≡ end → ⊥) → 0 < length s
unfolding reading entry
none_left [] g e n = absurd (n (sym e))
none_left (x ∷ s) g e n = omega arith

-- nothing else that is read is the end
abbrev is_end : Reading → ℕ
is_end end = 1
is_end bad = 0
is_end (got r) = 0

not_end : (g : Reading) → is_end g ≡ 0 → g ≡ end → ⊥
not_end g e z = let f : is_end g ≡ 1 = ap is_end z in omega arith

module _ (law : EntriesSay) (trace : List ℕ) (at : ℕ) (s : State) where
  further : (g : Reading) → reading (drop at trace) ≡ g → (g ≡ end → ⊥) → at < length trace
  further g e n = omega (arith, none_left (drop at trace) g e n, length-drop at trace)

  by-record : (r : Record) (b : Bool) → is_admissible s.made r ≡ b → reading (drop at trace) ≡ got r
      → StepSays trace at s (advance (got r) at s)
  unfolding advance
  by-record r true a e = rw a (record {
    complete = sym (lt-leb (length trace) at (further (got r) e (not_end (got r) refl)));
    stays = λ (h : true ≡ false). (cc, cc);
    goes = λ h. ap (λ (k : ℕ). at + record_size k) (sym (first_byte law (drop at trace) r e));
  })
  by-record r false a e = rw a (record {
    complete = sym (lt-leb (length trace) at (further (got r) e (not_end (got r) refl)));
    stays = λ h. (refl, refl);
    goes = λ (h : false ≡ true). cc;
  })

  by-reading : (g : Reading) → reading (drop at trace) ≡ g → Taken g (length (drop at trace)) → StepSays trace at s (advance g at s)
  unfolding advance
  by-reading end e t = record {
    complete = sym (le-leb (length trace) at (omega (arith, t, length-drop at trace)));
    stays = λ h. (refl, refl);
    goes = λ (h : false ≡ true). cc;
  }
  by-reading bad e t = record {
    complete = sym (lt-leb (length trace) at (further bad e (not_end bad refl)));
    stays = λ h. (refl, refl);
    goes = λ (h : false ≡ true). cc;
  }
  by-reading (got r) e t = by-record r _ refl e

pub steps-say : EntriesSay → StepsSay
unfolding step
steps-say law trace at s = by-reading law trace at s (reading (drop at trace)) refl (taken (drop at trace))
